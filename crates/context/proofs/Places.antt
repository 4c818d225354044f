-- The laws of `layouts` by phase: an index is the bit of one place and one phase.
use mathlib.Core.Bool.{Bool, true, false, cond, ◌&&◌}
use mathlib.Core.Path.{◌≡◌, refl, sym, ap, ◌∙◌}
use Prim.Native.Nat.{ℕ, zero, suc, ◌*◌, ◌≤◌, ◌<◌}
use native.Mathlib.Omega.{arith}
use borrow.Author.Tests.{eq-eqb, ne_eqb}
use lib.Dec.{T, eqb, eqb→eq}
use Rattle.loops.proofs.Tests.{T_true, both, left_of, right_of, same_test}
use Rattle.sizes.specs.Sizes.{VOTERS, VOTES}
use Rattle.layouts.specs.Layout.{index, index_place, index_phase}
use Rattle.layouts.proofs.Indices as indices
use Rattle.layouts.proofs.Indices.{Whole, voters_whole}
use Rattle.context.specs.declared.Phase.{Phase}
use Rattle.context.specs.declared.Phase.TheVariants.{Prevote, Precommit}
use Rattle.context.specs.Votes.{offset, bit, phase_at}

abbrev pub same_phase : Phase → Phase → Bool
same_phase a b = eqb (offset a) (offset b)

offset_lt : (phase : Phase) → offset phase < 2
offset_lt Prevote = omega arith
offset_lt Precommit = omega arith

offset_one : (a b : Phase) → offset a ≡ offset b → a ≡ b
offset_one Prevote Prevote e = refl
offset_one Prevote Precommit e = absurd (omega arith)
offset_one Precommit Prevote e = absurd (omega arith)
offset_one Precommit Precommit e = refl

-- the phase of a number
offset_at : (d : ℕ) → d < 2 → offset (cond (eqb d 0) Prevote Precommit) ≡ d
offset_at zero h = refl
offset_at (suc zero) h = refl
offset_at (suc (suc d)) h = absurd (omega arith)

pub place_bit : (phase : Phase) (p : ℕ) → index_place (bit phase p) ≡ p
unfolding bit
place_bit phase p = indices.place_index (offset phase) p (offset_lt phase)

pub bit_parts : (j : ℕ) → bit (phase_at j) (index_place j) ≡ j
unfolding bit phase_at
bit_parts j =
    ap (λ (d : ℕ). index d (index_place j)) (offset_at (index_phase j) (indices.index_phase_lt j)) ∙ indices.index_parts j

pub bit_one : (a b : Phase) (p q : ℕ) → bit a p ≡ bit b q → (a ≡ b) × (p ≡ q)
unfolding bit
bit_one a b p q e =
    let i = indices.index_one (offset a) (offset b) p q (offset_lt a) (offset_lt b) e in
    (offset_one a b i.0, i.1)

pub phase_bit : (phase : Phase) (p : ℕ) → phase_at (bit phase p) ≡ phase
phase_bit phase p = (bit_one (phase_at (bit phase p)) phase (index_place (bit phase p)) p (bit_parts (bit phase p))).0

-- two bits are equal where their phases and places are
pub bit_same : (a b : Phase) (p q : ℕ) → eqb (bit a p) (bit b q) ≡ (same_phase a b && eqb p q)
bit_same a b p q =
    same_test (eqb (bit a p) (bit b q)) (same_phase a b && eqb p q)
    (λ t.
    let i = bit_one a b p q (eqb→eq (bit a p) (bit b q) t) in
    both (same_phase a b) (eqb p q) (T_true (eq-eqb (offset a) (offset b) (ap (λ (x : Phase). offset x) i.0))) (T_true (eq-eqb p q i.1)))
    (λ t.
    let x = offset_one a b (eqb→eq (offset a) (offset b) (left_of (same_phase a b) (eqb p q) t)) in
    let y = eqb→eq p q (right_of (same_phase a b) (eqb p q) t) in
    T_true (eq-eqb (bit a p) (bit b q) (rw (x, y))))

-- of n voters in whole runs
module _ (n : ℕ) (w : Whole n) where
  pub bit_inside : (phase : Phase) (p : ℕ) → p < n → bit phase p < 2 * n
  unfolding bit
  bit_inside phase p h = indices.index_inside n w (offset phase) p (offset_lt phase) h

  pub bit_outside : (phase : Phase) (p : ℕ) → n ≤ p → 2 * n ≤ bit phase p
  unfolding bit
  bit_outside phase p h = indices.index_outside n w (offset phase) p h

  pub place_within : (j : ℕ) → j < 2 * n → index_place j < n
  place_within j h = indices.place_within n w j h

-- of the voters of a round
pub bit_few : (phase : Phase) (p : ℕ) → p < VOTERS → bit phase p < VOTES
bit_few phase p h = bit_inside VOTERS voters_whole phase p h

pub bit_past : (phase : Phase) (p : ℕ) → VOTERS ≤ p → VOTES ≤ bit phase p
bit_past phase p h = bit_outside VOTERS voters_whole phase p h
