-- The turns of the loops, and their ends.
use mathlib.Core.Bool.{Bool, true, false, not, ◌&&◌, ◌||◌}
use mathlib.Core.List.{List}
use mathlib.Core.Path.{◌≡◌, refl, sym, ap, ◌∙◌}
use Prim.Native.Nat.{ℕ, ◌+◌, ◌-◌, ◌≤◌, ◌<◌, max}
use native.Mathlib.Decide.{ℕ_discrete}
use native.Mathlib.Omega.{arith}
use lib.Dec.{eqb, ltb}
use lib.ListN.{get_or}
use borrow.Author.Tests.{ne_eqb}
use Rattle.loops.specs.All.{all}
use Rattle.loops.proofs.Alls.{all_none, all_next}
use Rattle.voter_shape.specs.Sound.{rising, non_zero}

module _ (column : List ℕ) where
  rising_none : true ≡ rising column 0
  unfolding rising all
  rising_none = refl

  pub rising_one : true ≡ rising column 1
  unfolding rising all
  rising_one = refl

  pub rising_next : (k : ℕ) → 0 < k → (ltb (get_or column (k - 1) 0) (get_or column k 0) && rising column k) ≡ rising column (k + 1)
  unfolding rising
  rising_next k h =
      let e : eqb k 0 ≡ false = ne_eqb k 0 (λ q. omega arith) in
      ap (λ (b : Bool). (b || ltb (get_or column (k - 1) 0) (get_or column k 0)) && rising column k) (sym e) ∙ all_next _ k

  pub rising_end : (n k : ℕ) → 0 < k → n ≤ k → k ≤ max 1 n → rising column k ≡ rising column n
  rising_end n k h l m = go (ℕ_discrete n 0)
    where
      go : Dec (n ≡ 0) → rising column k ≡ rising column n
      go (yes e) =
          let f : k ≡ 1 = omega arith in
          rw (e, f) (sym rising_one ∙ rising_none)
      go (no e) =
          let f : k ≡ n = omega arith in
          rw f

  pub non_zero_none : true ≡ non_zero column 0
  unfolding non_zero
  non_zero_none = sym (all_none _)

  pub non_zero_next : (k : ℕ) → (not (eqb (get_or column k 0) 0) && non_zero column k) ≡ non_zero column (k + 1)
  unfolding non_zero
  non_zero_next k = all_next _ k
