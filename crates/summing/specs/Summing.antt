-- What a journal tells from a state on, and what it tells of a round by its parts. Document 01, "The journal".
use Rattle.std.specs.Prelude.{List, ℕ}
use Rattle.context.specs.Votes.{voters_heard_in}
use Rattle.context.specs.declared.Phase.TheVariants.{Prevote, Precommit}
use Rattle.answers.specs.declared.Answers.{Answers}
use Rattle.answers.specs.declared.Heard.{Heard}
use Rattle.marks.specs.declared.End.{End}
use Rattle.marks.specs.declared.End.TheVariants.{Cut, Refused, Left}
use Rattle.round.specs.Calls.{block_of}
use Rattle.turns.specs.Turns.{Journal}
use Rattle.journal.specs.Journal.{run_from}
use Rattle.feeding.specs.Feeding.{after_run}
use Rattle.summary.specs.declared.Outcome.TheVariants as outcome
use Rattle.summary.specs.declared.Outcome.TheVariants.{Voting}
use Rattle.summary.specs.declared.Summary.{Summary}
use Rattle.summary.specs.Summary.{bare, summed}
use Rattle.refusals.specs.declared.Refusal.TheVariants.{OutOfTurn}

-- what some bytes tell from a state on, n records taken before them
unfoldable pub told : ℕ → Journal → List ℕ → Summary
told n j bs = summed (after_run n (run_from j bs))

-- a round by its parts: the table's ids and numbers, the base's bits, what is heard and answered
unfoldable pub of_parts : List ℕ → List ℕ → List ℕ → ℕ → ℕ → ℕ → Heard → Answers → ℕ → ℕ → Summary
of_parts ids numbers bits number total threshold heard answers records tail =
    record {
      outcome = Voting;
      records = records;
      tail = tail;
      number = number;
      total = total;
      threshold = threshold;
      heard = heard;
      prevoters = voters_heard_in bits Prevote;
      precommitters = voters_heard_in bits Precommit;
      prevote = block_of ids numbers answers.prevote;
      estimate = block_of ids numbers answers.estimate;
      finalized = block_of ids numbers answers.finalized;
      completable = answers.completable;
    }

-- how the third turn ends: a refusal tells nothing of the round
abbrev pub closed : End → Summary → ℕ → Summary
closed Cut s n = s
closed (Refused k) s n = bare (outcome.Refused k) n 0
closed Left s n = bare (outcome.Refused OutOfTurn) n 0
