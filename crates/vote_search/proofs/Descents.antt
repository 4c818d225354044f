-- The nodes that follow a block by the columns, and the turns of the search down.
use mathlib.Core.Bool.{Bool, true, false, cond}
use mathlib.Core.List.{List}
use mathlib.Core.Path.{◌≡◌, refl, sym, ap, subst, ◌∙◌}
use mathlib.Core.Logic.{◌≢◌}
use Prim.Native.Nat.{ℕ, zero, suc, pred, ◌≤◌, ◌<◌}
use native.Mathlib.Omega.{arith}
use lib.Dec.{T, eqb, eqb→eq}
use lib.ListN.{take, length}
use borrow.Author.Tests.{eq-eqb, ne_eqb}
use Rattle.sizes.specs.Sizes.{BLOCKS}
use Rattle.loops.specs.Listing.{keep, front}
use Rattle.loops.proofs.Listings.{kept_in}
use Rattle.grandpa.specs.Tree.{below}
use Rattle.grandpa.proofs.Trees.{below_up, below_trans, below_le, below_step}
use Rattle.graph.specs.Search.{nearest}
use Rattle.graph.specs.Graph.{Graph, no_bits, tally, children}
use Rattle.graph.specs.Ghost.{under, first_in, merge, settle, following, descend, find_ghost}
use Rattle.graph.proofs.Climbs.{nearest_says}
use Rattle.graph.proofs.Followed.{is_under}
use Rattle.nodes.specs.declared.Places.{Places}
use Rattle.nodes.specs.Nodes.{col, flag, row, placed, listed_under}
use Rattle.nodes.specs.Columns.{Columns, Sound, view}
use Rattle.nodes.proofs.Lists.{front_take, length_kept, length_keep, placed_front, placed_count}
use Rattle.vote_merge.specs.Merges.{Lower}
use Rattle.vote_merge.proofs.Lowers.{lower_kept}
use Rattle.vote_search.specs.Searches.{tallied, followed, unheaded}
use Rattle.vote_search.proofs.Ancestors.{tallied_is}
use Rattle.nodes.proofs.Tied.{listed_is}
use Rattle.std.specs.Prelude.{Option, Some, None}
use Rattle.std.specs.Prelude.{unwrap_or}

length_listed : (above : ℕ → ℕ) (k : ℕ) (xs : List ℕ) (x : ℕ) → length (listed_under above (front k xs) x) ≤ k
unfolding listed_under
length_listed above k xs x = length_kept (λ n. eqb (above n) x) k xs

-- the listing as the code reads it
pub listed_as : (above : ℕ → ℕ) (k : ℕ) (xs : List ℕ) → k ≤ length xs → (x : ℕ) (m : Places) → m ≡ placed (listed_under above (take k xs) x)
    → m ≡ placed (listed_under above (front k xs) x)
listed_as above k xs h x m e = rw (front_take k xs h) e

pub listed_few : (above : ℕ → ℕ) (k : ℕ) (xs : List ℕ) (x : ℕ) (m : Places) → m ≡ placed (listed_under above (front k xs) x) → m.count ≤ k
listed_few above k xs x m e = omega (arith, placed_count m _ e, length_listed above k xs x)

pub followed_few : (parents : List ℕ) (used : List Bool) (above order : List ℕ) (listed b : ℕ) (m : Places)
    → m ≡ placed (followed parents used above order listed b) → m.count ≤ listed
unfolding followed
followed_few parents used above order listed b m e =
    omega (
      arith,
      placed_count m _ e,
      length_keep (under (col parents) b) (listed_under (col above) (front listed order) (nearest (col parents) (flag used) b)),
      length_listed (col above) listed order (nearest (col parents) (flag used) b),
    )

-- the two calls that find what follows
pub followed_by : (parents : List ℕ) (used : List Bool) (above order : List ℕ) (listed b over : ℕ) (m k : Places) → over ≡ nearest (col parents) (flag used) b
    → m ≡ placed (listed_under (col above) (front listed order) over) → (xs : List ℕ) → xs ≡ front m.count m.places
    → k ≡ placed (keep (under (col parents) b) xs) → k ≡ placed (followed parents used above order listed b)
unfolding followed
followed_by parents used above order listed b over m k e p xs x q =
    q ∙ ap (λ (l : List ℕ). placed (keep (under (col parents) b) l)) (x ∙ placed_front m _ p ∙ ap (listed_under (col above) (front listed order)) e)

-- the turns of the search down
module _ (up : ℕ → ℕ) (g : Graph) (ok : List ℕ → Bool) (b : ℕ) (ns : List ℕ) where
  pub settle_ends : (f : ℕ) → 0 < f → (c : ℕ) → c ≡ first_in (λ n. ok (g.bits n)) ns → c ≡ 0 → settle up g ok f b ns ≡ merge up g.bits ok BLOCKS b ns
  unfolding settle
  settle_ends zero h c e d = absurd (omega arith)
  settle_ends (suc f) h c e d = rw (← e, eq-eqb c 0 d)

  pub settle_goes : (f : ℕ) → 0 < f → (c : ℕ) → c ≡ first_in (λ n. ok (g.bits n)) ns → c ≢ 0
      → settle up g ok f b ns ≡ settle up g ok (pred f) c (children up g c)
  unfolding settle
  settle_goes zero h c e d = absurd (omega arith)
  settle_goes (suc f) h c e d = rw (← e, ne_eqb c 0 d)

module _ (parents ids : List ℕ) (base count : ℕ) (g : Columns) (sound : Sound parents ids base count g) where
  pub followed_is : (b : ℕ) → followed parents g.used g.above g.order g.listed b ≡ following (col parents) (view g) b
  unfolding followed following
  followed_is b = ap (keep (under (col parents) b)) (listed_is parents ids base count g sound (nearest (col parents) (flag g.used) b))

  pub lower_following : (b : ℕ) → Lower parents b (following (col parents) (view g) b)
  unfolding following
  lower_following b = lower_kept parents b (children (col parents) (view g) (nearest (col parents) (flag g.used) b))

  pub lower_children : (x : ℕ) → Lower parents x (children (col parents) (view g) x)
  unfolding children
  lower_children x n h =
      let up = col parents in
      let falls = sound.parents_fall in
      let k = kept_in (λ n. eqb (nearest up (flag g.used) (up n)) x) n (front g.listed g.order) h in
      let r = sound.nodes.list_only n k.0 in
      let inside = sound.nodes.inside n r.0 in
      let near = nearest_says up falls (flag g.used) base sound.nodes.base_used (up n) (below_step up falls base n inside (λ z. r.1 (sym z))) in
      let l : T (below up x (up n)) = subst (λ (z : ℕ). T (below up z (up n))) (eqb→eq _ x k.1) near.above in
      is_under up falls x n (below_trans up falls x (up n) n l (below_up up falls n))
      (λ e. omega (arith, below_le up falls x (up n) l, falls n, below_le up falls base n inside, r.1))

  -- what the heads have to do with it: nothing
  abbrev bare : Graph
  bare = unheaded g.used g.rows g.order g.listed

  pub following_unheaded : (b : ℕ) → following (col parents) bare b ≡ following (col parents) (view g) b
  unfolding following children
  following_unheaded b = refl

  pub children_unheaded : (x : ℕ) → children (col parents) bare x ≡ children (col parents) (view g) x
  unfolding children
  children_unheaded x = refl

  settle_unheaded : (ok : List ℕ → Bool) (f b : ℕ) (ns : List ℕ) → settle (col parents) bare ok f b ns ≡ settle (col parents) (view g) ok f b ns
  unfolding settle
  settle_unheaded ok zero b ns = refl
  settle_unheaded ok (suc f) b ns =
      let c = first_in (λ n. ok (row g.rows n)) ns in
      ap (λ (x : ℕ). cond (eqb c 0) (merge (col parents) (row g.rows) ok BLOCKS b ns) x)
      (ap (settle (col parents) bare ok f c) (children_unheaded c) ∙ settle_unheaded ok f c (children (col parents) (view g) c))

  pub descend_unheaded : (ok : List ℕ → Bool) (b : ℕ) → descend (col parents) bare ok b ≡ descend (col parents) (view g) ok b
  descend_unheaded ok b =
      ap (settle (col parents) bare ok BLOCKS b) (following_unheaded b) ∙ settle_unheaded ok BLOCKS b (following (col parents) (view g) b)

  -- a block that passes
  pub ghost_from : (ok : List ℕ → Bool) (b : ℕ) → ok (tally (col parents) (view g) b) ≡ true → (r : ℕ) → r ≡ descend (col parents) bare ok b
      → find_ghost (col parents) (view g) ok b ≡ Some r
  unfolding find_ghost
  ghost_from ok b e r q = rw (e, ← descend_unheaded ok b, ← q)

  -- the two ends of `find_ghost`
  module _ (ok : List ℕ → Bool) (b : ℕ) (l : T (below (col parents) base b)) (v : Option (List ℕ))
      (told : v ≡ tallied parents g.used g.above g.rows g.heads g.tips b) (bits : List ℕ) (is : bits ≡ unwrap_or v no_bits) where
    asked : (z : Bool) → ok bits ≡ z → ok (tally (col parents) (view g) b) ≡ z
    asked z e = ap ok (sym (is ∙ ap (λ (o : Option (List ℕ)). unwrap_or o no_bits) told ∙ tallied_is parents ids base count g sound b l)) ∙ e

    pub ghost_none : ok bits ≡ false → find_ghost (col parents) (view g) ok b ≡ None
    unfolding find_ghost
    ghost_none e = rw (asked false e)

    pub ghost_some : ok bits ≡ true → (r : ℕ) → r ≡ descend (col parents) bare ok b → find_ghost (col parents) (view g) ok b ≡ Some r
    ghost_some e = ghost_from ok b (asked true e)
