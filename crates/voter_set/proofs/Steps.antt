-- The ways of making a set and of asking for a place.
use mathlib.Core.Bool.{Bool, true, false, cond}
use mathlib.Core.List.{List}
use mathlib.Core.Path.{◌≡◌, refl}
use Prim.Native.Nat.{ℕ, ◌≤◌}
use lib.Dec.{ltb}
use lib.ListN.{length, get_or, get_or-eq_default}
use borrow.Author.Tests.{le-ltb}
use Rattle.sizes.specs.Sizes.{VOTERS}
use Rattle.voter_pairs.specs.Voters.{Pair, gathered}
use Rattle.voter_info.proofs.Infos.{info_zero}
use Rattle.voter_set.specs.declared.VoterSet.{VoterSet}
use Rattle.voter_set.specs.Voters.{seat, seated}
use Rattle.voter_set.specs.Lookup.{nth}
use Rattle.voter_info.specs.declared.VoterInfo.{VoterInfo}
use Rattle.std.specs.Prelude.{Option, None}

pub seat_gathered : (ps : List Pair) (t : ℕ) → seat (gathered ps) t ≡ seated ps t
seat_gathered ps t = go (ltb VOTERS (length ps)) refl
  where
    go : (b : Bool) → ltb VOTERS (length ps) ≡ b → seat (gathered ps) t ≡ seated ps t
    go true e = rw e
    go false e = rw (e, e)

pub nth_beyond : (s : VoterSet) (n : ℕ) → s.count ≤ n → nth s n ≡ None
unfolding nth
nth_beyond s n h = rw (le-ltb n s.count h)

pub nth_short : (s : VoterSet) (n : ℕ) → length s.weights ≤ n → nth s n ≡ None
unfolding nth
nth_short s n h = rw (info_zero n (get_or s.weights n 0) (get_or-eq_default s.weights 0 h)) (go (ltb n s.count))
  where
    go : (b : Bool) → ◌≡◌ {A = Option (ℕ × VoterInfo)} (cond b None None) None
    go true = refl
    go false = refl
