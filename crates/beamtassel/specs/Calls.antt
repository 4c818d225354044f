-- The calls that consoles link, each on journals' bytes and a lent buffer. Document 01, "Refusal numbers": a refusal returns only its
-- number, and the buffer is untouched.
use Rattle.std.specs.Prelude.{Bool, true, false, cond, List, ◌++◌, ℕ, ◌+◌, ◌*◌, ltb, length, drop, Option, Some, None, Result, Ok, Err, ⊤}
use Rattle.grandpa.specs.Views.{two_views}
use Rattle.records.specs.Bytes.{little}
use Rattle.listing.specs.declared.Wanted.TheVariants.{Finalizing}
use Rattle.listing.specs.Written.{record_of, in_a_row}
use Rattle.round.specs.declared.Round.{Round}
use Rattle.round.specs.Ask.{entries_of}
use Rattle.two_views.specs.Views.{agree, voters, precommits}
use Rattle.journal.specs.declared.Turn.{Turn}
use Rattle.journal.specs.declared.Turn.TheVariants.{Voters, Blocks, Votes}
use Rattle.feeding.specs.declared.Replay.{Replay}
use Rattle.feeding.specs.Feeding.{replayed}
use Rattle.report.specs.Report.{lines_of}
use Rattle.summary.specs.Summary.{summed}
use Rattle.figures.specs.Figures.{figures, in_order}
use Rattle.refusals.specs.declared.Refusal.{Refusal}
use Rattle.refusals.specs.declared.Refusal.TheVariants.{ShortBuffer, NothingFinal, UnlikeViews}
use Rattle.refusals.specs.Number as refusal

-- what a call returns, and the lent buffer after it
pub record Call : Type 0 where
  pub number : ℕ
  pub out : List ℕ

-- 2^32 and the refusal's number; the buffer as it was
abbrev pub refused : Refusal → List ℕ → Call
refused e out = record { number = 4294967296 + refusal.number e; out = out }

-- how many bytes, which stand at the start of the buffer; those after them stay. 14 where it is too short for them
abbrev pub given : List ℕ → List ℕ → Call
given bytes out =
    cond (ltb (length out) (length bytes)) (refused ShortBuffer out) (record { number = length bytes; out = bytes ++ drop (length bytes) out })

abbrev pub number_of : Result ℕ Refusal → ℕ
number_of (Ok n) = n
number_of (Err e) = 4294967296 + refusal.number e

-- the report in numbers; a refused journal is told there
unfoldable pub replay_call : List ℕ → List ℕ → Call
replay_call journal out = given (in_order (figures (summed (replayed journal)))) out

-- the report in document 01's lines
unfoldable pub print_call : List ℕ → List ℕ → Call
print_call journal out = given (lines_of (replayed journal)) out

-- a refused journal's own number comes first
abbrev pub unless_refused : Result ⊤ Refusal → List ℕ → Call → Call
unless_refused (Err n) out call = refused n out
unless_refused (Ok tt) out call = call

-- the Op is among the records taken
abbrev pub has_round : Turn → Bool
has_round Votes = true
has_round Blocks = false
has_round Voters = false

-- the finalizing precommits as Pc records; 15 where nothing is finalized
abbrev pub finalizing_in : Round → Option ℕ → List ℕ → Call
finalizing_in r (Some b) out =
    given (in_a_row (record_of r.votes r.context.voters.ids r.table.ids r.table.numbers) (entries_of (Finalizing b) r)) out
finalizing_in r None out = refused NothingFinal out

-- and where there is no round
unfoldable pub finalizing_call : List ℕ → List ℕ → Call
finalizing_call journal out =
    let r = replayed journal in
    unless_refused r.stop out
    (cond (has_round r.journal.turn) (finalizing_in r.journal.round r.journal.round.answers.finalized out) (refused NothingFinal out))

-- the two-view sum; 16 where the rounds differ in number, voters, base or table
unfoldable pub views_in : Round → Round → Result ℕ Refusal
views_in a b = cond (agree a b) (Ok (two_views (voters a) (precommits a) (precommits b))) (Err UnlikeViews)

abbrev pub weighed : Result ℕ Refusal → List ℕ → Call
weighed (Ok w) out = given (little 8 w) out
weighed (Err n) out = refused n out

-- and where there is no round in either
abbrev pub compared : Replay → Replay → List ℕ → Call
compared a b out =
    unless_refused a.stop out
    (unless_refused b.stop out
    (cond (has_round a.journal.turn)
    (cond (has_round b.journal.turn) (weighed (views_in a.journal.round b.journal.round) out) (refused UnlikeViews out))
    (refused UnlikeViews out)))

unfoldable pub two_views_call : List ℕ → List ℕ → List ℕ → Call
two_views_call first second out = compared (replayed first) (replayed second) out

-- a version as one number
abbrev pub version : ℕ → ℕ → ℕ → ℕ
version major minor patch = 1000000 * major + 1000 * minor + patch
