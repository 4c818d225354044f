use Rattle.round.specs.Ask.{votes_of}
use Rattle.listing.specs.Written.{Lent}
use Rattle.round.proofs.Tested.{passes, passed, refuses}
use Rattle.round.proofs.Round.prevotes.Goals as goal

pub returns-in_err-tested : goal.returns-in_err-tested
unfolding votes_of
returns-in_err-tested c =
    refuses {B = Lent} (λ x. record { answer = x; bytes = c.args.out.now }) c.args.self _ _ c.in_err-tested.ensures c.from_residual.ensures.1

pub listed-requires : goal.listed-requires
listed-requires c = passed c.args.self c.in_ok-tested.ensures

pub returns : goal.returns
unfolding votes_of
returns c = rw (passes c.args.self c.in_ok-tested.ensures) c.listed.ensures
