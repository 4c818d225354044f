use Rattle.round.specs.Ask.{base}
use Rattle.round.proofs.Tested.{tells, refuses}
use Rattle.round.proofs.Round.base.Goals as goal

pub returns-in_err-tested : goal.returns-in_err-tested
unfolding base
returns-in_err-tested c = refuses (λ x. x) c.args.self _ _ c.in_err-tested.ensures c.from_residual.ensures.1

pub returns : goal.returns
unfolding base
returns c = rw (c.block_of.ensures) (tells c.args.self _ c.in_ok-tested.ensures)
