use Rattle.round.proofs.block_of.Goals as goal

pub returns-in-Some : goal.returns-in-Some
returns-in-Some c = rw (c.in-Some.is, c.wide-at.ensures.0)
