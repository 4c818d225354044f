-- What a replay tells, without its state. Document 01, "The journal": heard weight, total, T and voters heard; block and number, or none;
-- bytes after the last whole record. It stops at the first refusal, which has no tail; an end before Op has no round.
use Rattle.std.specs.Prelude.{false, ℕ, Option, None, Result, Ok, Err, ⊤}
use Rattle.context.specs.declared.Phase.TheVariants.{Prevote, Precommit}
use Rattle.answers.specs.Update.{no_heard}
use Rattle.journal.specs.declared.Turn.{Turn}
use Rattle.journal.specs.declared.Turn.TheVariants.{Voters, Blocks, Votes}
use Rattle.feeding.specs.declared.Replay.{Replay}
use Rattle.round.specs.declared.Round.{Round}
use Rattle.round.specs.Ask.{heard_in}
use Rattle.round.specs.Calls.{block_of}
use Rattle.summary.specs.declared.Outcome.{Outcome}
use Rattle.summary.specs.declared.Outcome.TheVariants.{Voting, Early, Refused}
use Rattle.summary.specs.declared.Summary.{Summary}
use Rattle.refusals.specs.declared.Refusal.{Refusal}

-- no round: what belongs to one is blank
unfoldable pub bare : Outcome → ℕ → ℕ → Summary
bare outcome records tail =
    record {
      outcome = outcome;
      records = records;
      tail = tail;
      number = 0;
      total = 0;
      threshold = 0;
      heard = no_heard;
      prevoters = 0;
      precommitters = 0;
      prevote = None;
      estimate = None;
      finalized = None;
      completable = false;
    }

-- a block by id and number, or none
abbrev pub told_in : Round → Option ℕ → Option (ℕ × ℕ)
told_in r found = block_of r.table.ids r.table.numbers found

unfoldable pub of_round : Round → ℕ → ℕ → Summary
of_round r records tail =
    record {
      outcome = Voting;
      records = records;
      tail = tail;
      number = r.number;
      total = r.context.voters.total;
      threshold = r.context.voters.threshold;
      heard = r.heard;
      prevoters = heard_in r.graph Prevote;
      precommitters = heard_in r.graph Precommit;
      prevote = told_in r r.answers.prevote;
      estimate = told_in r r.answers.estimate;
      finalized = told_in r r.answers.finalized;
      completable = r.answers.completable;
    }

abbrev pub summed_by : Result ⊤ Refusal → Turn → Replay → Summary
summed_by (Err n) t r = bare (Refused n) r.records 0
summed_by (Ok tt) Votes r = of_round r.journal.round r.records r.rest.count
summed_by (Ok tt) Blocks r = bare Early r.records r.rest.count
summed_by (Ok tt) Voters r = bare Early r.records r.rest.count

unfoldable pub summed : Replay → Summary
summed r = summed_by r.stop r.journal.turn r
