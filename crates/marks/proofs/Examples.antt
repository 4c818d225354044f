-- Document 01, "The journal": the six marks by their letters, the bytes of each record in all, and records read at a cut and at an
-- unknown mark.
use mathlib.Core.List.{List, [], ◌∷◌, ◌++◌}
use mathlib.Core.Path.{◌≡◌, refl}
use Prim.Native.Nat.{ℕ, ◌+◌}
use lib.ListN.{length, take}
use Rattle.marks.specs.declared.Mark.TheVariants.{Vt, Rt, Bk, Op, Pv, Pc}
use Rattle.marks.specs.declared.Record.TheVariants as is
use Rattle.marks.specs.Marks.{named, size, read, fields, after, word, long}
use Rattle.std.specs.Prelude.{Some}

-- what the six marks name, as the code's numbers
pub six_marks :
    (named 0x7456 ≡ Some Vt) × (named 0x7452 ≡ Some Rt) × (named 0x6b42 ≡ Some Bk)
    × (named 0x704f ≡ Some Op) × (named 0x7650 ≡ Some Pv) × (named 0x6350 ≡ Some Pc)
unfolding named
six_marks = (refl, refl, refl, refl, refl, refl)

pub bytes_in_all :
    (2 + size Vt ≡ 14) × (2 + size Rt ≡ 10) × (2 + size Bk ≡ 10) × (2 + size Op ≡ 14) × (2 + size Pv ≡ 22) × (2 + size Pc ≡ 22)
bytes_in_all = (refl, refl, refl, refl, refl, refl)

-- case J's first two records: voter 1 of weight 1, then voter 2
abbrev voter_1 : List ℕ
voter_1 = 86 ∷ 116 ∷ 1 ∷ 0 ∷ 0 ∷ 0 ∷ 1 ∷ 0 ∷ 0 ∷ 0 ∷ 0 ∷ 0 ∷ 0 ∷ 0 ∷ []

abbrev voter_2 : List ℕ
voter_2 = 86 ∷ 116 ∷ 2 ∷ 0 ∷ 0 ∷ 0 ∷ 1 ∷ 0 ∷ 0 ∷ 0 ∷ 0 ∷ 0 ∷ 0 ∷ 0 ∷ []

pub case_j :
    (read (voter_1 ++ voter_2) ≡ is.Whole Vt) × (word (fields Vt (voter_1 ++ voter_2)) 0 ≡ 1)
    × (long (fields Vt (voter_1 ++ voter_2)) 4 ≡ 1) × (after Vt (voter_1 ++ voter_2) ≡ voter_2)
unfolding named read fields after word long
case_j = (refl, refl, refl, refl)

-- a prevote whose bytes show the order: voter 0x04030201, target 0x08070605, number 0x0c0b0a09, signature 0x14131211100f0e0d
abbrev in_order : List ℕ
in_order = 80 ∷ 118 ∷ 1 ∷ 2 ∷ 3 ∷ 4 ∷ 5 ∷ 6 ∷ 7 ∷ 8 ∷ 9 ∷ 10 ∷ 11 ∷ 12 ∷ 13 ∷ 14 ∷ 15 ∷ 16 ∷ 17 ∷ 18 ∷ 19 ∷ 20 ∷ []

pub little_endian :
    (read in_order ≡ is.Whole Pv) × (length (fields Pv in_order) ≡ 20) × (word (fields Pv in_order) 0 ≡ 67305985)
    × (word (fields Pv in_order) 4 ≡ 134678021) × (word (fields Pv in_order) 8 ≡ 202050057)
    × (long (fields Pv in_order) 12 ≡ 1446519769809227277)
unfolding named read fields word long
little_endian = (refl, refl, refl, refl, refl, refl)

-- a record without its last byte, one byte of any kind, and nothing
pub cuts : (read (take 21 in_order) ≡ is.Cut) × (read (63 ∷ []) ≡ is.Cut) × (read [] ≡ is.Cut)
unfolding named read
cuts = (refl, refl, refl)

-- 'V' and 'v' name nothing, which two bytes tell; nor do the letters of a mark turned round
pub unknown : (read (86 ∷ 118 ∷ []) ≡ is.Unknown) × (read (116 ∷ 86 ∷ voter_1) ≡ is.Unknown)
unfolding named read
unknown = (refl, refl)
