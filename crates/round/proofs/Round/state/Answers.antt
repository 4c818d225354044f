use Rattle.round.specs.Ask.{state}
use Rattle.round.proofs.Tested.{tells, refuses}
use Rattle.round.proofs.Round.state.Goals as goal

pub returns-in_err-tested : goal.returns-in_err-tested
unfolding state
returns-in_err-tested c = refuses (λ x. x) c.args.self _ _ c.in_err-tested.ensures c.from_residual.ensures.1

pub returns : goal.returns
unfolding state
returns c = rw (c.block_of.ensures, c.block_of-2.ensures, c.block_of-3.ensures) (tells c.args.self _ c.in_ok-tested.ensures)
