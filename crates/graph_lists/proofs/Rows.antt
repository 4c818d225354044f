-- A row without a bit, and the order of heads.
use mathlib.Core.Bool.{Bool, true, false, ◌&&◌, ◌||◌}
use mathlib.Core.List.{List}
use mathlib.Core.Path.{◌≡◌, refl, sym}
use Prim.Native.Nat.{ℕ, ◌+◌, ◌-◌, ◌≤◌, ◌<◌}
use native.Mathlib.Decide.{ℕ_discrete}
use native.Mathlib.Omega.{arith}
use lib.Dec.{T, eqb, ltb}
use lib.ListN.{length, get_or, take}
use borrow.Author.Tests.{eq-eqb, ne_eqb}
use Rattle.std.specs.Bool.{MatchBool}
use Rattle.std.specs.List.{AllAdjacentBelow}
use Rattle.std.proofs.lemmas.List.{get_or-take, length-take-le}
use Rattle.loops.proofs.Tests.{T_true, true_T, in_left, in_right}
use Rattle.loops.proofs.Alls.{all_intro, all_false}
use Rattle.loops.specs.All.{all}
use Rattle.bitfield.specs.Bits.{blank}
use Rattle.graph_lists.specs.Listed.{zero_bits, rising}

in_turn : (a b : Bool) → (b && (a && true)) ≡ (a && b)
in_turn true true = refl
in_turn true false = refl
in_turn false true = refl
in_turn false false = refl

pub zero_bits_is : (bits : List ℕ) → length bits ≡ 2 → blank bits ≡ zero_bits bits
unfolding blank all
zero_bits_is bits two = rw two (in_turn (eqb (get_or bits 0 0) 0) (eqb (get_or bits 1 0) 0))

-- heads in order: each id is above the one before
module _ (ids heads : List ℕ) (tips : ℕ) where
  abbrev pub below : ℕ → ℕ → Bool
  below x y = ltb (get_or ids x 0) (get_or ids y 0)

  pub rising_is : (r : Bool) → tips ≤ length heads
      → MatchBool r (AllAdjacentBelow (λ x y. true ≡ below x y) (take tips heads) (length (take tips heads)))
      ((k : ℕ) × (k + 1 < length (take tips heads)) × ((d : ℕ) → false ≡ below (get_or (take tips heads) k d) (get_or (take tips heads) (k + 1) d)))
      → r ≡ rising ids heads tips
  unfolding rising
  rising_is true h m = sym (true_T _ (all_intro _ tips (λ k l. turn k l (ℕ_discrete k 0))))
    where
      front : (k : ℕ) → k < tips → get_or (take tips heads) k 0 ≡ get_or heads k 0
      front k l = get_or-take tips heads k 0 l

      turn : (k : ℕ) → k < tips → Dec (k ≡ 0) → T (eqb k 0 || ltb (get_or ids (get_or heads (k - 1) 0) 0) (get_or ids (get_or heads k 0) 0))
      turn k l (yes e) = in_left (eqb k 0) _ (T_true (eq-eqb k 0 e))
      turn k l (no n) =
          let next : k - 1 + 1 ≡ k = omega arith in
          let at = m (k - 1) 0 (omega (arith, length-take-le tips heads h)) in
          in_right (eqb k 0) _ (T_true (sym (rw (next, front (k - 1) (omega arith), front k l) at at)))
  rising_is false h m =
      let long = length-take-le tips heads h in
      let next : m.0 + 1 - 1 ≡ m.0 = omega arith in
      let first = get_or-take tips heads m.0 0 (omega (arith, m.1)) in
      let second = get_or-take tips heads (m.0 + 1) 0 (omega (arith, m.1)) in
      sym (all_false _ tips (m.0 + 1) (omega (arith, m.1)) (rw (ne_eqb (m.0 + 1) 0 (λ e. omega arith), next) (sym (rw (first, second) at (m.2 0)))))
