-- What a replay prints. Document 01, "The journal": it stops at the first refusal and prints only `refused N at K`, K counting records from
-- 1; an end before Op prints `no round`, then the tail line. "Refusal numbers": 9, then 14, with the buffer untouched.
use Rattle.std.specs.Prelude.{cond, List, ◌++◌, ℕ, ltb, length, drop, Result, Ok, Err, ⊤}
use Rattle.weights.specs.Weights.{plus}
use Rattle.listing.specs.Written.{Lent}
use Rattle.journal.specs.declared.Turn.{Turn}
use Rattle.journal.specs.declared.Turn.TheVariants.{Voters, Blocks, Votes}
use Rattle.feeding.specs.declared.Replay.{Replay}
use Rattle.feeding.specs.Feeding.{stands}
use Rattle.lines.specs.Lines as text
use Rattle.refusals.specs.declared.Refusal.{Refusal}
use Rattle.refusals.specs.Number.{number}
use Rattle.refusals.specs.declared.Refusal.TheVariants.{Misshapen, ShortBuffer}

-- the refused record is the one after those taken
abbrev pub lines_by : Result ⊤ Refusal → Turn → Replay → List ℕ
lines_by (Err e) t r = text.refused (number e) (plus r.records 1)
lines_by (Ok tt) Votes r = text.round_lines r.journal.round r.rest.count
lines_by (Ok tt) Blocks r = text.no_round r.rest.count
lines_by (Ok tt) Voters r = text.no_round r.rest.count

unfoldable pub lines_of : Replay → List ℕ
lines_of r = lines_by r.stop r.journal.turn r

abbrev pub refused : Refusal → List ℕ → Lent
refused n out = record { answer = Err n; bytes = out }

unfoldable pub printed : Replay → List ℕ → Lent
printed r out =
    cond (stands r)
    (cond (ltb (length out) (length (lines_of r))) (refused ShortBuffer out)
    (record { answer = Ok (length (lines_of r)); bytes = lines_of r ++ drop (length (lines_of r)) out }))
    (refused Misshapen out)
