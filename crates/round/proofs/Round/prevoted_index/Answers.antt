use Rattle.round.specs.Ask.{prevoted_index}
use Rattle.round.proofs.Tested.{tells, refuses}
use Rattle.round.proofs.Round.prevoted_index.Goals as goal

pub returns-in_err-tested : goal.returns-in_err-tested
unfolding prevoted_index
returns-in_err-tested c = refuses (λ x. x) c.args.self _ _ c.in_err-tested.ensures c.from_residual.ensures.1

pub returns : goal.returns
unfolding prevoted_index
returns c = tells c.args.self _ c.in_ok-tested.ensures
