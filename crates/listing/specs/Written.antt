-- A list of entries as records in a lent buffer. Document 01, "The four answers": each record is written into the part of the
-- buffer that remains; the bytes after the last stay. "Refusal numbers": 14, lent buffer too short for the whole list; a
-- refusal leaves the buffer untouched.
use Rattle.std.specs.Prelude.{Bool, cond, List, [], ◌∷◌, ◌++◌, ℕ, ◌*◌, eqb, ltb, length, drop, Result, Ok, Err}
use Rattle.layouts.specs.Layout.{index_place, entry_index, entry_pair}
use Rattle.context.specs.declared.Phase.{Phase}
use Rattle.context.specs.Votes.{phase_at}
use Rattle.nodes.specs.Nodes.{col}
use Rattle.tracker.specs.declared.Votes.{Votes}
use Rattle.tracker.specs.declared.Pair.{Pair}
use Rattle.tracker.specs.declared.VoteMultiplicity.{VoteMultiplicity}
use Rattle.tracker.specs.declared.VoteMultiplicity.TheVariants.{Silent, Single, Equivocated}
use Rattle.tracker.specs.Recorded.{recorded}
use Rattle.records.specs.Bytes.{vote_bytes}
use Rattle.refusals.specs.declared.Refusal.{Refusal}
use Rattle.refusals.specs.declared.Refusal.TheVariants.{ShortBuffer}

-- the phase of an entry, and the place of its voter
abbrev pub phase_of : ℕ → Phase
phase_of e = phase_at (entry_index e)

abbrev pub voter_of : ℕ → ℕ
voter_of e = index_place (entry_index e)

-- the first pair or the later one; zeros where none is recorded, which no list of recorded votes asks for
abbrev pub chosen : VoteMultiplicity → Bool → Pair
chosen Silent later = record { target = 0; number = 0; signature = 0 }
chosen (Single a) later = a
chosen (Equivocated a b) later = cond later b a

unfoldable pub pair_of : Votes → List ℕ → List ℕ → ℕ → Pair
pair_of v ids numbers e = chosen (recorded v ids numbers (entry_index e)) (eqb (entry_pair e) 1)

unfoldable pub record_of : Votes → List ℕ → List ℕ → List ℕ → ℕ → List ℕ
record_of v voters ids numbers e = vote_bytes (phase_of e) (col voters (voter_of e)) (pair_of v ids numbers e)

-- records one after the other
unfoldable pub in_a_row : (ℕ → List ℕ) → List ℕ → List ℕ
in_a_row f [] = []
in_a_row f (e ∷ es) = f e ++ in_a_row f es

-- an answer, and the lent buffer with it
pub record Lent : Type 0 where
  pub answer : (Result ℕ Refusal)
  pub bytes : List ℕ

unfoldable pub written : (ℕ → List ℕ) → List ℕ → List ℕ → Lent
written f es out =
    cond (ltb (length out) (22 * length es))
    (record { answer = Err ShortBuffer; bytes = out })
    (record { answer = Ok (22 * length es); bytes = in_a_row f es ++ drop (22 * length es) out })
