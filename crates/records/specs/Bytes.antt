-- A vote's record in bytes. Document 01, "The journal": a two-byte ASCII mark and fixed fields, little-endian, in this order:
-- Pv or Pc, voter u32, target u32, number u32, signature u64; 22 bytes in all.
use Rattle.std.specs.Prelude.{List, [], ◌∷◌, ◌++◌, ℕ, zero, suc, ◌+◌, ◌*◌, ◌/◌, ◌%◌}
use Rattle.context.specs.declared.Phase.{Phase}
use Rattle.context.specs.declared.Phase.TheVariants.{Prevote, Precommit}
use Rattle.tracker.specs.declared.Pair.{Pair}

-- the n lowest bytes of a number, the lowest first
abbrev pub little : ℕ → ℕ → List ℕ
little zero x = []
little (suc n) x = x % 256 ∷ little n (x / 256)

-- the number whose bytes are given, the lowest first
abbrev pub number_of : List ℕ → ℕ
number_of [] = 0
number_of (b ∷ bs) = b + 256 * number_of bs

-- 'v' or 'c'
abbrev pub second_mark : Phase → ℕ
second_mark Prevote = 118
second_mark Precommit = 99

-- a record: the mark, 'P' and a letter, and the fields
abbrev pub fields : ℕ → ℕ → ℕ → ℕ → ℕ → List ℕ
fields second voter target number signature =
    80 ∷ second ∷ (little 4 voter ++ (little 4 target ++ (little 4 number ++ little 8 signature)))

unfoldable pub vote_bytes : Phase → ℕ → Pair → List ℕ
vote_bytes phase voter pair = fields (second_mark phase) voter pair.target pair.number pair.signature
