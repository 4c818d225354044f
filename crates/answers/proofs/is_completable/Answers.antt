use Rattle.answers.proofs.Steps.{stands, told_in, untested_none, untested_other, untested_end}
use Rattle.answers.proofs.is_completable.Goals as goal

pub returns-in_default : goal.returns-in_default
returns-in_default g c = untested_none _ _ _ _ _ c.in_default.is

pub returns-then-block-g : goal.returns-then-block-g
returns-then-block-g g c = untested_other _ _ _ _ _ _ c.in-Some.is c.if-block-g.true

pub descend-lowest-requires : goal.descend-lowest-requires
descend-lowest-requires g c = (_, _, c.requires.2, stands _ _ _ c.requires.3 _ (told_in _ _ _ c.requires.4 _ c.in-Some.is))

pub returns : goal.returns
returns g c = untested_end _ _ _ _ _ _ c.in-Some.is c.if-block-g.false _ c.descend-lowest.ensures
