-- Two words as the code writes them.
use mathlib.Core.List.{List, [], ◌∷◌}
use mathlib.Core.Path.{◌≡◌, refl, ap}
use Prim.Native.Nat.{ℕ, ◌-◌, ◌/◌, ◌%◌, ◌^◌, ◌≤◌, ◌<◌}
use native.Mathlib.Omega.{arith}
use lib.Bits.{bit_and, bit_or}
use lib.ListN.{length, get_or, set}
use Rattle.loops.specs.Sum.{sum}
use Rattle.bitfield.specs.Bits.{put, words, joined, mask, every}

-- the masks as numbers
pub evens : mask 0 ≡ 0xaaaaaaaaaaaaaaaa
unfolding mask sum
evens = refl

pub odds : mask 1 ≡ 0x5555555555555555
unfolding mask sum
odds = refl

set_first : (ws : List ℕ) (v : ℕ) → length ws ≡ 2 → set ws 0 v ≡ v ∷ get_or ws 1 0 ∷ []
set_first [] v e = absurd (omega arith)
set_first (a ∷ []) v e = absurd (omega arith)
set_first (a ∷ b ∷ []) v e = refl
set_first (a ∷ b ∷ c ∷ ws) v e = absurd (omega arith)

set_second : (ws : List ℕ) (v : ℕ) → length ws ≡ 2 → set ws 1 v ≡ get_or ws 0 0 ∷ v ∷ []
set_second [] v e = absurd (omega arith)
set_second (a ∷ []) v e = absurd (omega arith)
set_second (a ∷ b ∷ []) v e = refl
set_second (a ∷ b ∷ c ∷ ws) v e = absurd (omega arith)

module _ (ws : List ℕ) (two : length ws ≡ 2) where
  pub put_first : (b : ℕ) → b < 64 → put ws b ≡ bit_or (get_or ws 0 0) (2 ^ (63 - b % 64)) ∷ get_or ws 1 0 ∷ []
  unfolding put
  put_first b h =
      let q : b / 64 ≡ 0 = omega arith in
      rw q (set_first ws _ two)

  pub put_second : (b : ℕ) → 64 ≤ b → b < 128 → put ws b ≡ get_or ws 0 0 ∷ bit_or (get_or ws 1 0) (2 ^ (63 - b % 64)) ∷ []
  unfolding put
  put_second b l h =
      let q : b / 64 ≡ 1 = omega arith in
      rw q (set_second ws _ two)

  pub joined_two : (other : List ℕ) → joined ws other ≡ bit_or (get_or ws 0 0) (get_or other 0 0) ∷ bit_or (get_or ws 1 0) (get_or other 1 0) ∷ []
  unfolding joined words
  joined_two other = rw two

  pub every_two : (d m : ℕ) → mask d ≡ m → every d ws ≡ words 2 (λ i. bit_and (get_or ws i 0) m)
  unfolding every
  every_two d m e = rw two (ap (λ (k : ℕ). words 2 (λ i. bit_and (get_or ws i 0) k)) e)
