use Rattle.round.specs.Ask.{historical_votes}
use Rattle.listing.specs.Written.{Lent}
use Rattle.round.proofs.Steps.{few_votes, fit_votes}
use Rattle.round.proofs.Tested.{passes, passed, refuses}
use Rattle.round.proofs.Round.historical_votes.Goals as goal

pub returns-in_err-tested : goal.returns-in_err-tested
unfolding historical_votes
returns-in_err-tested c =
    refuses {B = Lent} (λ x. record { answer = x; bytes = c.args.out.now }) c.args.self _ _ c.in_err-tested.ensures c.from_residual.ensures.1

pub records-requires : goal.records-requires
records-requires c =
    (few_votes _ (passed c.args.self c.in_ok-tested.ensures), fit_votes _ (passed c.args.self c.in_ok-tested.ensures))

pub returns : goal.returns
unfolding historical_votes
returns c = rw (passes c.args.self c.in_ok-tested.ensures) c.records.ensures
