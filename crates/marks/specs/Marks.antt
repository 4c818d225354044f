-- The records of a journal. Document 01, "The journal": a record is a two-byte ASCII mark and fixed fields, little-endian; an unknown
-- mark is judged at its two bytes, all else when the record is whole.
use Rattle.std.specs.Prelude.{cond, List, ℕ, ◌+◌, ◌*◌, eqb, ltb, length, get_or, take, drop, Option, Some, None}
use Rattle.marks.specs.declared.Mark.{Mark}
use Rattle.marks.specs.declared.Mark.TheVariants.{Vt, Rt, Bk, Op, Pv, Pc}
use Rattle.marks.specs.declared.Record.{Record}
use Rattle.marks.specs.declared.Record.TheVariants as is
use Rattle.marks.specs.declared.End.{End}
use Rattle.marks.specs.declared.End.TheVariants as end
use Rattle.refusals.specs.declared.Refusal.TheVariants.{UnknownMark}

-- a byte of a list, 0 past its end
abbrev pub byte : List ℕ → ℕ → ℕ
byte bs k = get_or bs k 0

-- two letters as a number, the first lowest: 'V' is 86, 'R' 82, 'B' 66, 'O' 79, 'P' 80, 't' 116, 'k' 107, 'p' 112, 'v' 118, 'c' 99
abbrev pub letters : ℕ → ℕ → ℕ
letters first second = first + 256 * second

unfoldable pub named : ℕ → Option Mark
named mark =
    cond (eqb mark (letters 86 116)) (Some Vt)
    (cond (eqb mark (letters 82 116)) (Some Rt)
    (cond (eqb mark (letters 66 107)) (Some Bk)
    (cond (eqb mark (letters 79 112)) (Some Op)
    (cond (eqb mark (letters 80 118)) (Some Pv) (cond (eqb mark (letters 80 99)) (Some Pc) None)))))

-- the bytes of a record after its mark
abbrev pub size : Mark → ℕ
size Vt = 12
size Rt = 8
size Bk = 8
size Op = 12
size Pv = 20
size Pc = 20

-- a record of this mark is whole
abbrev pub whole : List ℕ → Option Mark → Record
whole bs (Some m) = cond (ltb (length bs) (2 + size m)) is.Cut (is.Whole m)
whole bs None = is.Unknown

-- what stands at the start of some bytes
unfoldable pub read : List ℕ → Record
read bs = cond (ltb (length bs) 2) is.Cut (whole bs (named (letters (byte bs 0) (byte bs 1))))

-- the fields of a record, and the bytes after it
unfoldable pub fields : Mark → List ℕ → List ℕ
fields m bs = take (size m) (drop 2 bs)

unfoldable pub after : Mark → List ℕ → List ℕ
after m bs = drop (2 + size m) bs

-- four bytes and eight, little-endian
unfoldable pub word : List ℕ → ℕ → ℕ
word fs at = byte fs at + 256 * byte fs (at + 1) + 65536 * byte fs (at + 2) + 16777216 * byte fs (at + 3)

unfoldable pub long : List ℕ → ℕ → ℕ
long fs at = word fs at + 4294967296 * word fs (at + 4)

-- why no record is whole at the start of some bytes: 17 at an unknown mark; a whole record is another's to judge
abbrev pub ends : Record → End
ends is.Unknown = end.Refused UnknownMark
ends is.Cut = end.Cut
ends (is.Whole m) = end.Left

unfoldable pub ending : List ℕ → End
ending bs = ends (read bs)
