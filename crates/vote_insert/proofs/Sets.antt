-- The turn of the loop that sets the node above.
use mathlib.Core.List.{List}
use mathlib.Core.Path.{◌≡◌}
use Prim.Native.Nat.{ℕ, ◌+◌}
use lib.ListN.{get_or, set}
use Rattle.loops.specs.Listing.{front}
use Rattle.loops.proofs.Listings.{fold_front}
use Rattle.vote_insert.specs.Insert.{set_all}

pub set_all_next : (ys : List ℕ) (k : ℕ) (xs : List ℕ) (x : ℕ) → set_all ys (front (k + 1) xs) x ≡ set (set_all ys (front k xs) x) (get_or xs k 0) x
unfolding set_all
set_all_next ys k xs x = fold_front (λ p v. set v p x) k xs ys
