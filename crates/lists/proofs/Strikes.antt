-- The turns of the loops that strike marks out.
use mathlib.Core.Bool.{Bool, true, false}
use mathlib.Core.List.{List}
use mathlib.Core.Path.{◌≡◌, refl, sym}
use Prim.Native.Nat.{ℕ, ◌+◌, ◌<◌}
use lib.ListN.{get_or, set}
use Rattle.loops.specs.All.{all}
use Rattle.loops.specs.Listing.{front, fold}
use Rattle.loops.proofs.Alls.{all_false}
use Rattle.loops.proofs.Listings.{fold_front}
use Rattle.lists.specs.Laid.{struck, unmarked, none_left, fresh, once_each}

module _ (f : ℕ → ℕ) (xs : List ℕ) (marks : List Bool) where
  pub struck_none : marks ≡ struck f (front 0 xs) marks
  unfolding struck fold front
  struck_none = refl

  pub struck_more : (k at : ℕ) (left : List Bool) → left ≡ struck f (front k xs) marks → at ≡ f (get_or xs k 0)
      → set left at false ≡ struck f (front (k + 1) xs) marks
  unfolding struck
  struck_more k at left e q = rw (q, e) (sym (fold_front _ k xs marks))

module _ (places : List ℕ) (marks : List Bool) where
  pub fresh_is : (k at : ℕ) (left : List Bool) → left ≡ unmarked (front k places) marks → at ≡ get_or places k 0
      → fresh places marks k ≡ get_or left at false
  fresh_is k at left e q = rw (q, e)

  pub once_false : (size n k : ℕ) → k < n → fresh places marks k ≡ false → false ≡ once_each size places n marks
  unfolding once_each
  once_false size n k h e = rw (all_false (fresh places marks) n k h e)

  pub once_end : (size n k : ℕ) (left : List Bool) → k ≡ n → all k (fresh places marks) ≡ true → left ≡ unmarked (front k places) marks
      → none_left size left ≡ once_each size places n marks
  unfolding once_each
  once_end size n k left h a e = rw (← h, a, e)
