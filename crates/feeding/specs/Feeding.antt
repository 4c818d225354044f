-- A replay that takes a journal's bytes piece by piece. Document 01, "The journal": the replay stops at the first refusal, K counts records
-- from 1, the tail is what is left after the last whole record. "Refusal numbers": 9 first where a state is taken; a refusal hands it back
-- equal.
use Rattle.std.specs.Prelude.{Bool, true, false, cond, not, ◌&&◌, List, [], ◌++◌, ℕ, ltb, length, take, drop, replicate, Result, Ok, Err, ⊤}
use Rattle.weights.specs.Weights.{plus}
use Rattle.marks.specs.declared.Record.{Record}
use Rattle.marks.specs.declared.Record.TheVariants as is
use Rattle.marks.specs.declared.End.{End}
use Rattle.marks.specs.declared.End.TheVariants as end
use Rattle.marks.specs.Marks.{read}
use Rattle.runs.specs.Run.{Run}
use Rattle.turns.specs.Turns.{pairing, no_pairs}
use Rattle.journal.specs.declared.Journal.{Journal}
use Rattle.journal.specs.Journal as journal
use Rattle.journal.specs.Journal.{told, run_from}
use Rattle.feeding.specs.declared.Rest.{Rest}
use Rattle.feeding.specs.declared.Replay.{Replay}
use Rattle.feeding.specs.declared.Fed.{Fed}
use Rattle.feeding.specs.declared.Joint.{Joint}
use Rattle.refusals.specs.declared.Refusal.{Refusal}
use Rattle.refusals.specs.declared.Refusal.TheVariants.{Misshapen, OutOfTurn}

-- the bytes of a record that is not whole yet
abbrev pub bytes_of : Rest → List ℕ
bytes_of r = take r.count r.bytes

abbrev pub is_cut : Record → Bool
is_cut is.Cut = true
is_cut (is.Whole m) = false
is_cut is.Unknown = false

unfoldable pub rest_stands : Rest → Bool
rest_stands r = not (ltb 22 r.count) && is_cut (read (bytes_of r))

-- bytes from the start of zeros
abbrev pub over : ℕ → List ℕ → List ℕ
over n bs = bs ++ drop (length bs) (replicate n 0)

unfoldable pub kept_rest : List ℕ → Rest
kept_rest bs = record { bytes = over 22 bs; count = length bs }

-- the replay after a run: a refusal stops it, and its tail is dropped
abbrev pub ended_by : End → ℕ → Run Journal → Replay
ended_by end.Cut n r = record { journal = r.state; rest = kept_rest r.rest; records = plus n r.count; stop = Ok tt }
ended_by (end.Refused k) n r = record { journal = r.state; rest = kept_rest []; records = plus n r.count; stop = Err k }
ended_by end.Left n r = record { journal = r.state; rest = kept_rest []; records = plus n r.count; stop = Err OutOfTurn }

unfoldable pub after_run : ℕ → Run Journal → Replay
after_run n r = ended_by r.end n r

-- before the first record
abbrev pub started : Replay
started = record { journal = journal.laid (pairing no_pairs); rest = kept_rest []; records = 0; stop = Ok tt }

-- a whole journal
unfoldable pub replayed : List ℕ → Replay
replayed bs = after_run 0 (run_from (pairing no_pairs) bs)

-- a piece goes behind the bytes that were left
unfoldable pub went : Journal → Rest → ℕ → List ℕ → Replay
went j rest n piece = after_run n (run_from (told j) (bytes_of rest ++ piece))

unfoldable pub stands : Replay → Bool
stands r = journal.stands r.journal && rest_stands r.rest

abbrev pub answered : Replay → Fed
answered r = record { answer = r.stop; replay = r }

-- a replay that has stopped stays as it is
abbrev pub unless : Result ⊤ Refusal → Replay → Replay → Fed
unless (Ok tt) before after = answered after
unless (Err n) before after = record { answer = Err n; replay = before }

unfoldable pub fed : Replay → List ℕ → Fed
fed r piece =
    cond (stands r) (unless r.stop r (went r.journal r.rest r.records piece)) (record { answer = Err Misshapen; replay = r })

-- what is left of a piece, with the start of the next one behind it
unfoldable pub laid : List ℕ → Joint
laid bs = record { bytes = over 44 bs; count = length bs }
