-- What a replay tells, as 22 numbers at fixed places: the numbers of document 01's lines ("The journal"), each in eight bytes,
-- little-endian, as the journal's own fields are. "Refusal numbers": 14, lent buffer too short, and the buffer untouched.
use Rattle.std.specs.Prelude.{cond, List, [], ◌∷◌, ◌++◌, ℕ, ltb, length, drop, Option, Some, None, Ok, Err}
use Rattle.weights.specs.Weights.{plus}
use Rattle.records.specs.Bytes.{little}
use Rattle.listing.specs.Written.{Lent, in_a_row}
use Rattle.summary.specs.declared.Outcome.{Outcome}
use Rattle.summary.specs.declared.Outcome.TheVariants.{Voting, Early, Refused}
use Rattle.summary.specs.declared.Summary.{Summary}
use Rattle.figures.specs.declared.Ended.{Ended}
use Rattle.figures.specs.declared.Block.{Block}
use Rattle.refusals.specs.declared.Refusal.TheVariants.{ShortBuffer}
use Rattle.refusals.specs.Number.{number}

-- 0 a round, 1 none, 2 refused; the refusal's number; the record refused, which is the one after those taken, counted from 1
abbrev pub ended_by : Outcome → ℕ → Ended
ended_by Voting records = record { kind = 0; refusal = 0; place = 0 }
ended_by Early records = record { kind = 1; refusal = 0; place = 0 }
ended_by (Refused n) records = record { kind = 2; refusal = number n; place = plus records 1 }

-- 1 and the block's id and number, or three zeros
abbrev pub shown : Option (ℕ × ℕ) → Block
shown (Some (id, height)) = record { known = 1; id = id; height = height }
shown None = record { known = 0; id = 0; height = 0 }

-- the numbers by place, from 0
unfoldable pub figures : Summary → List ℕ
figures s =
    (ended_by s.outcome s.records).kind
    ∷ (ended_by s.outcome s.records).refusal
    ∷ (ended_by s.outcome s.records).place
    ∷ s.records
    ∷ s.tail
    ∷ s.number
    ∷ s.total
    ∷ s.threshold
    ∷ s.heard.prevote
    ∷ s.heard.precommit
    ∷ s.prevoters
    ∷ s.precommitters
    ∷ (shown s.prevote).known
    ∷ (shown s.prevote).id
    ∷ (shown s.prevote).height
    ∷ (shown s.estimate).known
    ∷ (shown s.estimate).id
    ∷ (shown s.estimate).height
    ∷ (shown s.finalized).known
    ∷ (shown s.finalized).id
    ∷ (shown s.finalized).height
    ∷ cond s.completable 1 0
    ∷ []

-- eight bytes each
abbrev pub in_order : List ℕ → List ℕ
in_order numbers = in_a_row (little 8) numbers

-- from the start of a lent buffer; the bytes after them stay
unfoldable pub figured : Summary → List ℕ → Lent
figured s out =
    cond (ltb (length out) 176)
    (record { answer = Err ShortBuffer; bytes = out })
    (record { answer = Ok 176; bytes = in_order (figures s) ++ drop 176 out })
