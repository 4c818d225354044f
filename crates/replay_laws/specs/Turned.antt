-- Document 01, "The journal". Turn: zero or more Vt, one Rt, Bk, one Op, then Bk, Pv and Pc mixed. "Refusal numbers": 18, record out of turn.
use Rattle.std.specs.Prelude.{Bool, true, false, ◌≡◌, ℕ, ◌≤◌, T, length, List, [], ◌∷◌}
use Rattle.sizes.specs.Sizes.{PAIRS}
use Rattle.marks.specs.declared.Mark.{Mark}
use Rattle.marks.specs.declared.Mark.TheVariants.{Vt, Rt, Bk, Op, Pv, Pc}
use Rattle.runs.specs.Parsed.{Entry}
use Rattle.turns.specs.Turns.{Journal, pairing, growing, voting}

-- the three parts of a journal, each up to the record that ends it
pub data Part : Type 0 where
  voters : Part
  blocks : Part
  votes : Part

abbrev pub part_of : Journal → Part
part_of (pairing p) = voters
part_of (growing v t) = blocks
part_of (voting r) = votes

-- the marks that may come in a part, and the part after each
abbrev pub may : Part → Mark → Bool
may voters Vt = true
may voters Rt = true
may voters Bk = false
may voters Op = false
may voters Pv = false
may voters Pc = false
may blocks Vt = false
may blocks Rt = false
may blocks Bk = true
may blocks Op = true
may blocks Pv = false
may blocks Pc = false
may votes Vt = false
may votes Rt = false
may votes Bk = true
may votes Op = false
may votes Pv = true
may votes Pc = true

abbrev pub next : Part → Mark → Part
next p Vt = p
next p Rt = blocks
next p Bk = p
next p Op = votes
next p Pv = p
next p Pc = p

-- records that come in their turn
unfoldable pub InTurn : Part → List Entry → Type 0
InTurn p [] = Unit {0}
InTurn p (e ∷ es) = T (may p e.mark) × InTurn (next p e.mark) es

-- the numbers that a record can be refused with: a Vt past PAIRS; a voter set; a block; a base; a vote; else out of turn
abbrev pub Own : Part → Mark → ℕ → Type 0
Own voters Vt n = n ≡ 1
Own voters Rt n = (2 ≤ n) × (n ≤ 4)
Own voters Bk n = n ≡ 18
Own voters Op n = n ≡ 18
Own voters Pv n = n ≡ 18
Own voters Pc n = n ≡ 18
Own blocks Vt n = n ≡ 18
Own blocks Rt n = n ≡ 18
Own blocks Bk n = (5 ≤ n) × (n ≤ 8)
Own blocks Op n = n ≡ 10
Own blocks Pv n = n ≡ 18
Own blocks Pc n = n ≡ 18
Own votes Vt n = n ≡ 18
Own votes Rt n = n ≡ 18
Own votes Bk n = (5 ≤ n) × (n ≤ 8)
Own votes Op n = n ≡ 18
Own votes Pv n = (11 ≤ n) × (n ≤ 13)
Own votes Pc n = (11 ≤ n) × (n ≤ 13)

-- arrays of PAIRS, which the types say of pairs in code
abbrev pub Paired : Journal → Type 0
Paired (pairing p) = (length p.ids ≡ PAIRS) × (length p.weights ≡ PAIRS) × (p.count ≤ PAIRS)
Paired (growing v t) = Unit {0}
Paired (voting r) = Unit {0}
