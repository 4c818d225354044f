-- How a replay ends. Document 01, "The journal": records are taken in order; it stops at the first refusal, K counting records from 1; an
-- unknown mark is judged at its two bytes, all else when the record is whole; the tail is the bytes after the last whole record.
use Rattle.std.specs.Prelude.{List, [], ◌∷◌, ◌++◌, ◌≡◌, ℕ, length, Ok, Err}
use Rattle.weights.specs.Weights.{plus}
use Rattle.marks.specs.declared.Record.TheVariants as is
use Rattle.marks.specs.declared.End.TheVariants.{Cut}
use Rattle.marks.specs.Marks.{read}
use Rattle.runs.specs.Run.{stops}
use Rattle.runs.specs.Parsed.{Entry, parsed, tail, Folded, folded}
use Rattle.turns.specs.Turns.{Journal, pairing, took, no_pairs}
use Rattle.journal.specs.Journal.{laid}
use Rattle.feeding.specs.declared.Replay.{Replay}
use Rattle.feeding.specs.Feeding.{kept_rest}
use Rattle.refusals.specs.declared.Refusal.{Refusal}
use Rattle.refusals.specs.declared.Refusal.TheVariants.{UnknownMark}

-- some records, taken in order from the start
abbrev pub taken : List Entry → Folded Journal
taken es = folded took (pairing no_pairs) es

-- their state, their number up to the greatest u64, and the bytes after them
abbrev pub open_after : List Entry → List ℕ → Replay
open_after es rest = record { journal = laid (taken es).state; rest = kept_rest rest; records = plus 0 (length es); stop = Ok tt }

-- the same, stopped: what is refused is the one after them
abbrev pub stopped_after : List Entry → Refusal → Replay
stopped_after es n = record { journal = laid (taken es).state; rest = kept_rest []; records = plus 0 (length es); stop = Err n }

pub data Ends (bs : List ℕ) : Replay → Type 0 where
  -- every whole record is taken, and a record that is not whole may follow
  at_end : (taken (parsed bs)).end ≡ Cut → read (tail bs) ≡ is.Cut → Ends bs (open_after (parsed bs) (tail bs))
  -- every whole record is taken, and an unknown mark follows
  at_mark : (taken (parsed bs)).end ≡ Cut → read (tail bs) ≡ is.Unknown → Ends bs (stopped_after (parsed bs) UnknownMark)
  -- the records before e are taken, and e is refused
  at_record : (es : List Entry) (e : Entry) (later : List Entry) (n : Refusal) → parsed bs ≡ es ++ (e ∷ later) → (taken es).end ≡ Cut
      → took (taken es).state e.mark e.fields ≡ stops n → Ends bs (stopped_after es n)
