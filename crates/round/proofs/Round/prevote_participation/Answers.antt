use Rattle.round.specs.Ask.{prevote_participation}
use Rattle.round.proofs.Tested.{tells, refuses}
use Rattle.round.proofs.Round.prevote_participation.Goals as goal

pub returns-in_err-tested : goal.returns-in_err-tested
unfolding prevote_participation
returns-in_err-tested c = refuses (λ x. x) c.args.self _ _ c.in_err-tested.ensures c.from_residual.ensures.1

pub returns : goal.returns
unfolding prevote_participation
returns c = rw (c.heard_in.ensures) (tells c.args.self _ c.in_ok-tested.ensures)
