-- The turns of a loop that tests for unused places.
use mathlib.Core.Bool.{Bool, true, ◌&&◌, ◌||◌}
use mathlib.Core.List.{List}
use mathlib.Core.Path.{◌≡◌, sym, ap, ◌∙◌}
use Prim.Native.Nat.{ℕ, ◌+◌, ◌≤◌}
use lib.Dec.{eqb, ltb}
use lib.ListN.{get_or}
use borrow.Author.Tests.{lt-ltb, le-ltb}
use Rattle.loops.proofs.Tests.{T_true, true_T, in_left}
use Rattle.loops.proofs.Alls.{all_intro, all_next}
use Rattle.columns.specs.Blank.{blank}

module _ (column : List ℕ) (n : ℕ) where
  pub blank_none : true ≡ blank column n n
  unfolding blank
  blank_none =
      sym (true_T _ (all_intro _ n (λ k h. in_left (ltb k n) (eqb (get_or column k 0) 0) (T_true (lt-ltb k n h)))))

  pub blank_next : (k : ℕ) → n ≤ k → (eqb (get_or column k 0) 0 && blank column n k) ≡ blank column n (k + 1)
  unfolding blank
  blank_next k h =
      ap (λ (b : Bool). (b || eqb (get_or column k 0) 0) && blank column n k) (sym (le-ltb k n h)) ∙ all_next _ k
