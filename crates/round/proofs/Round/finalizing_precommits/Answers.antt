use Rattle.round.specs.Ask.{finalizing_precommits}
use Rattle.listing.specs.Written.{Lent}
use Rattle.round.proofs.Lists.{finalizing_done}
use Rattle.round.proofs.Tested.{passes, passed, refuses}
use Rattle.round.proofs.Round.finalizing_precommits.Goals as goal

pub returns-in_err-tested : goal.returns-in_err-tested
unfolding finalizing_precommits
returns-in_err-tested c =
    refuses {B = Lent} (λ x. record { answer = x; bytes = c.args.out.now }) c.args.self _ _ c.in_err-tested.ensures c.from_residual.ensures.1

pub returns-in_default : goal.returns-in_default
unfolding finalizing_precommits
returns-in_default c = rw (passes c.args.self c.in_ok-tested.ensures, c.in_default.is)

pub listed-requires : goal.listed-requires
listed-requires c = passed c.args.self c.in_ok-tested.ensures

pub returns : goal.returns
returns c = finalizing_done c.args.self _ _ _ (passes c.args.self c.in_ok-tested.ensures) c.in-Some.is c.listed.ensures
