use Rattle.round.specs.Ask.{primary_voter}
use Rattle.round.proofs.Tested.{tells, refuses}
use Rattle.round.proofs.Round.primary_voter.Goals as goal

pub returns-in_err-tested : goal.returns-in_err-tested
unfolding primary_voter
returns-in_err-tested c = refuses (λ x. x) c.args.self _ _ c.in_err-tested.ensures c.from_residual.ensures.1

pub returns : goal.returns
unfolding primary_voter
returns c = rw (c.nth_mod.ensures) (tells c.args.self _ c.in_ok-tested.ensures)
