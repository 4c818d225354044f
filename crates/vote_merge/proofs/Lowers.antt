-- Places strictly below a block, and the child in which they meet.
use mathlib.Core.Bool.{Bool}
use mathlib.Core.List.{List, []}
use mathlib.Core.Path.{◌≡◌, ◌∙◌}
use mathlib.Core.Logic.{◌≢◌}
use Prim.Native.Nat.{ℕ, ◌≤◌, ◌<◌}
use native.Mathlib.Omega.{arith}
use Rattle.loops.specs.Listing.{times, keep, front}
use Rattle.loops.proofs.Listings.{kept_in}
use Rattle.grandpa.proofs.Trees.{below_le, child_below}
use Rattle.graph.specs.Ghost.{under, towards, meets}
use Rattle.graph.proofs.Followed.{under_is, towards_says}
use Rattle.nodes.specs.declared.Places.{Places}
use Rattle.nodes.specs.Nodes.{col, Falls, placed}
use Rattle.nodes.proofs.Lists.{length_kept, placed_count}
use Rattle.vote_merge.specs.Merges.{Lower}
use Rattle.vote_merge.proofs.Meetings.{meets_at}

-- places kept are strictly below, and fewer
pub lower_kept : (parents : List ℕ) (c : ℕ) (l : List ℕ) → Lower parents c (keep (under (col parents) c) l)
lower_kept parents c l n h = (kept_in (under (col parents) c) n l h).1

pub lower_past : (parents : List ℕ) → Falls parents → (b n : ℕ) (l : List ℕ) → Lower parents b l → 0 < times n l → b < n
lower_past parents falls b n l lower h =
    let r = under_is (col parents) falls b n (lower n h) in
    omega (arith, below_le (col parents) falls b n r.0, r.1)

pub kept_few : (p : ℕ → Bool) (k : ℕ) (xs : List ℕ) (m : Places) → m ≡ placed (keep p (front k xs)) → m.count ≤ k
kept_few p k xs m e = omega (arith, placed_count m _ e, length_kept p k xs)

-- the child in which nodes meet is below
pub meets_past : (parents : List ℕ) → Falls parents → (bits : ℕ → List ℕ) (ok : List ℕ → Bool) (b : ℕ) (ns : List ℕ) → Lower parents b ns
    → (c : ℕ) → c ≡ meets (col parents) bits ok b [] ns → c ≢ 0 → b < c
meets_past parents falls bits ok b ns lower c e d =
    let r = meets_at (col parents) bits b ok ns [] (λ q. d (e ∙ q)) in
    let s = child_below (col parents) falls b (towards (col parents) b r.0) (towards_says (col parents) falls b r.0 (lower r.0 r.1)).0 in
    omega (arith, below_le (col parents) falls b _ s.0, s.1, r.2, e)
