-- Document 01, "Weights and bits": from one set bit to the next. The Rust's iterators are here the words still to be
-- walked, and a step that takes the first bit off them.
use Rattle.std.specs.Prelude.{Bool, cond, List, [], ◌∷◌, ℕ, zero, suc, ◌-◌, ◌*◌, ◌/◌, ◌%◌, ◌^◌, length, get_or, set, ◌≡◌, Option, None, Some}
use Rattle.std.specs.Int.Count.{count_leading_zeros}
use Rattle.loops.specs.Loop.{first}
use Rattle.bitfield.specs.declared.Bit1.{Bit1}
use Rattle.bitfield.specs.declared.First.{First}
use Rattle.bitfield.specs.Bits.{has}

-- bit b, which is set, taken off
unfoldable pub cut : List ℕ → ℕ → List ℕ
cut ws b = set ws (b / 64) (get_or ws (b / 64) 0 - 2 ^ (63 - b % 64))

-- the first set bit of a word and the rest of it
abbrev pub first_of : ℕ → First
first_of w = record { at = count_leading_zeros 64 w; rest = w - 2 ^ (63 - count_leading_zeros 64 w) }

-- what a step of a walk finds, and the words that are left to walk
pub record Step : Type 0 where
  pub found : Option Bit1
  pub left : List ℕ

-- the first set bit and the words without it, or none
unfoldable pub next : List ℕ → Step
next ws =
    first (has ws) (λ b. record { found = Some (record { position = b }); left = cut ws b }) (record { found = None; left = ws })
    (64 * length ws)
    0

-- what f steps find, one after the other
abbrev pub visit : Option Bit1 → List ℕ → List ℕ
visit None rest = []
visit (Some b) rest = b.position ∷ rest

unfoldable pub walk : ℕ → List ℕ → List ℕ
walk zero ws = []
walk (suc f) ws = visit (next ws).found (walk f (next ws).left)

-- of the f places from k on those that pass a test, rising
unfoldable pub passing : (ℕ → Bool) → ℕ → ℕ → List ℕ
passing p zero k = []
passing p (suc f) k = cond (p k) (k ∷ passing p f (suc k)) (passing p f (suc k))

-- the set bits of some words, rising
unfoldable pub set_bits : List ℕ → List ℕ
set_bits ws = passing (has ws) (64 * length ws) 0

-- a step of the walk over some words finds a bit, or none, and leaves words
abbrev pub Steps : List ℕ → Option Bit1 → List ℕ → Type 0
Steps ws found left = next ws ≡ record { found = found; left = left }
