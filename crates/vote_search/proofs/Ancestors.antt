-- A block's bits by columns that keep the shape rules are the graph's, and the turns of the search towards the base.
use mathlib.Core.Bool.{Bool, true, false, cond, not, ◌&&◌}
use mathlib.Core.List.{List, [], ◌∷◌}
use mathlib.Core.Path.{◌≡◌, refl, sym, ap, subst, ◌∙◌}
use mathlib.Core.Logic.{◌≢◌}
use Prim.Native.Nat.{ℕ, zero, suc, pred, ◌≤◌, ◌<◌}
use native.Mathlib.Decide.{ℕ_discrete}
use native.Mathlib.Omega.{arith}
use lib.Dec.{T, eqb, ltb}
use lib.ListN.{take, length}
use borrow.Author.Tests.{eq-eqb, ne_eqb, lt-ltb}
use Rattle.loops.specs.Listing.{times, fold, front}
use Rattle.loops.proofs.Tests.{T_true, T_false}
use Rattle.loops.proofs.Listings.{times_here, times_none}
use Rattle.grandpa.specs.Tree.{below}
use Rattle.grandpa.specs.Answers.{search_up, first_of}
use Rattle.grandpa.proofs.Trees.{below_refl, below_up, below_trans, below_le, below_step}
use Rattle.graph.specs.Search.{containing}
use Rattle.graph.specs.Graph.{join_of, no_bits, tally}
use Rattle.graph.specs.Ghost.{is_nil, find_ancestor}
use Rattle.graph.proofs.Found.{containing_only, containing_over}
use Rattle.nodes.specs.declared.Places.{Places}
use Rattle.nodes.specs.Nodes.{col, flag, row, placed, found}
use Rattle.nodes.specs.Columns.{Columns, Sound, view}
use Rattle.vote_search.specs.Searches.{tallied, unlisted}
use Rattle.nodes.proofs.Lists.{front_take, placed_front, placed_count}
use Rattle.nodes.proofs.Tied.{found_is}
use Rattle.std.specs.Prelude.{Option, Some, None}
use Rattle.std.specs.Prelude.{unwrap_or}
use Rattle.std.specs.Bool.{then_some}

some_left : {A : Type 0} (l : List ℕ) (x : A) → then_some (ltb 0 (length l)) x ≡ cond (is_nil l) None (Some x)
some_left [] x = refl
some_left (y ∷ l) x = rw (lt-ltb 0 (suc (length l)) (omega arith))

-- the two ways of `cumulative_vote`
module _ (parents : List ℕ) (used : List Bool) (above : List ℕ) (rows : List (List ℕ)) (heads : List ℕ) (tips b : ℕ) where
  pub tallied_node : (k : ℕ) → k ≡ b → flag used k ≡ true → Some (row rows k) ≡ tallied parents used above rows heads tips b
  unfolding tallied
  tallied_node k e u = rw (← e, u)

  pub tallied_bare : (k : ℕ) → k ≡ b → flag used k ≡ false → tips ≤ length heads
      → (m : Places) → m ≡ placed (found (col parents) (col above) (take tips heads) b) → (xs : List ℕ) → xs ≡ front m.count m.places
      → (v : List ℕ) → v ≡ join_of (row rows) xs → then_some (ltb 0 m.count) v ≡ tallied parents used above rows heads tips b
  unfolding tallied
  tallied_bare k e u h m p xs x v q =
      rw (sym (ap (flag used) e) ∙ u, front_take tips heads h, placed_count m _ p, q, x, placed_front m _ p)
      (some_left (found (col parents) (col above) (take tips heads) b) _)

-- what a test says of an answer that it picks
picked_none : {A : Type 0} (z : Bool) (o : Option A) (x : A) → o ≡ None → o ≡ cond z None (Some x) → z ≡ true
picked_none true o x e q = refl
picked_none false o x e q = absurd (let z : ◌≡◌ {A = ℕ} 0 1 = cc in omega arith)

picked_some : {A : Type 0} (z : Bool) (o : Option A) (x y : A) → o ≡ Some y → o ≡ cond z None (Some x) → (z ≡ false) × (y ≡ x)
picked_some true o x y e q = absurd (let z : ◌≡◌ {A = ℕ} 0 1 = cc in omega arith)
picked_some false o x y e q = (refl, ap (λ (r : Option _). unwrap_or r x) (sym e ∙ q))

no_nodes : (bits : ℕ → List ℕ) (l : List ℕ) → unwrap_or (cond (is_nil l) None (Some (join_of bits l))) no_bits ≡ join_of bits l
unfolding join_of fold
no_nodes bits [] = refl
no_nodes bits (x ∷ l) = refl

module _ (up : ℕ → ℕ) (falls : (k : ℕ) → up k ≤ pred k) (ok : ℕ → Bool) (base : ℕ) where
  search_fuel : (f g b : ℕ) → b < f → b < g → T (below up base b) → search_up up ok base f b ≡ search_up up ok base g b
  unfolding search_up
  search_fuel zero g b h k l = absurd (omega arith)
  search_fuel (suc f) zero b h k l = absurd (omega arith)
  search_fuel (suc f) (suc g) b h k l = go (ℕ_discrete b base) (search_fuel f g (up b))
    where
      turn : Option ℕ → Option ℕ
      turn r = cond (ok b) (Some b) (cond (eqb b base) None r)

      go : Dec (b ≡ base) → (up b < f → up b < g → T (below up base (up b)) → search_up up ok base f (up b) ≡ search_up up ok base g (up b))
          → turn (search_up up ok base f (up b)) ≡ turn (search_up up ok base g (up b))
      go (yes e) r = rw (eq-eqb b base e)
      go (no d) r =
          ap turn (r (omega (arith, falls b, below_le up falls base b l)) (omega (arith, falls b, below_le up falls base b l)) (below_step up falls base b l (λ q. d (sym q))))

  first_here : (b : ℕ) → ok b ≡ true → first_of up ok base b ≡ Some b
  unfolding first_of search_up
  first_here b e = rw e

  first_base : (b : ℕ) → ok b ≡ false → b ≡ base → first_of up ok base b ≡ None
  unfolding first_of search_up
  first_base b e q = rw (e, eq-eqb b base q)

  first_up : (b : ℕ) → ok b ≡ false → b ≢ base → T (below up base b) → first_of up ok base b ≡ first_of up ok base (up b)
  unfolding first_of search_up
  first_up b e d l =
      rw (e, ne_eqb b base d)
      (search_fuel b (suc (up b)) (up b) (omega (arith, falls b, below_le up falls base b l)) (omega arith) (below_step up falls base b l (λ q. d (sym q))))

module _ (parents ids : List ℕ) (base count : ℕ) (g : Columns) (sound : Sound parents ids base count g) where
  abbrev up : ℕ → ℕ
  up = col parents

  abbrev used : ℕ → Bool
  used = flag g.used

  abbrev heads : List ℕ
  heads = front g.tips g.heads

  abbrev at : ℕ → Option (List ℕ)
  at b = tallied parents g.used g.above g.rows g.heads g.tips b

  -- a block in the graph has a node or is on an edge
  abbrev outside : ℕ → Bool
  outside b = not (used b) && is_nil (containing up used heads b)

  -- no bits where it is not in the graph
  pub tallied_is : (b : ℕ) → T (below up base b) → unwrap_or (at b) no_bits ≡ tally up (view g) b
  unfolding tallied tally
  tallied_is b l = go (used b) refl
    where
      go : (z : Bool) → used b ≡ z → unwrap_or (at b) no_bits ≡ tally up (view g) b
      go true e = rw e
      go false e = rw (e, found_is parents ids base count g sound b l (T_false e)) (no_nodes (row g.rows) (containing up used heads b))

  pub tallied_says : (b : ℕ) → T (below up base b) → at b ≡ cond (outside b) None (Some (tally up (view g) b))
  unfolding tallied tally
  tallied_says b l = go (used b) refl
    where
      go : (z : Bool) → used b ≡ z → at b ≡ cond (outside b) None (Some (tally up (view g) b))
      go true e = rw e
      go false e = rw (e, found_is parents ids base count g sound b l (T_false e))

  -- what the listing has to do with it: nothing
  pub tally_unlisted : (b : ℕ) → tally up (unlisted g.used g.rows g.heads g.tips) b ≡ tally up (view g) b
  unfolding tally
  tally_unlisted b = refl

  pub ancestor_unlisted : (ok : List ℕ → Bool) (b : ℕ)
      → find_ancestor up (unlisted g.used g.rows g.heads g.tips) base ok b ≡ find_ancestor up (view g) base ok b
  unfolding find_ancestor tally
  ancestor_unlisted ok b = refl

  -- with a block its parent is in the graph
  in_graph : (b y : ℕ) → T (used y) → T (below up b y) → outside b ≡ false
  in_graph b y u l = go (used b) refl
    where
      not_nil : (x : ℕ) (l : List ℕ) → 0 < times x l → is_nil l ≡ false
      not_nil x [] h = absurd (omega (arith, times_none x))
      not_nil x (z ∷ l) h = refl

      go : (z : Bool) → used b ≡ z → (not z && is_nil (containing up used heads b)) ≡ false
      go true e = refl
      go false e =
          let r = containing_over up (col ids) sound.parents_fall base count used _ heads sound.nodes b (T_false e) y u l in
          not_nil r.0 _ r.1

  node_under : (b : ℕ) → outside b ≡ false → (y : ℕ) × T (used y) × T (below up b y)
  node_under b = go (used b) refl
    where
      held : T (not (used b)) → (l : List ℕ) → containing up used heads b ≡ l → is_nil l ≡ false → (y : ℕ) × T (used y) × T (below up b y)
      held bare [] e n = absurd (let z : ◌≡◌ {A = ℕ} 0 1 = cc in omega arith)
      held bare (x ∷ l) e n =
          let h = containing_only up (col ids) sound.parents_fall base count used _ heads sound.nodes b bare x
          (subst (λ (m : List ℕ). 0 < times x m) (sym e) (omega (arith, times_here x l))) in
          (x, h.is_node, h.under)

      go : (z : Bool) → used b ≡ z → (not z && is_nil (containing up used heads b)) ≡ false → (y : ℕ) × T (used y) × T (below up b y)
      go true e n = (b, T_true e, below_refl up sound.parents_fall b)
      go false e n = held (T_false e) (containing up used heads b) refl n

  outside_up : (b : ℕ) → outside b ≡ false → outside (up b) ≡ false
  outside_up b e =
      let y = node_under b e in
      in_graph (up b) y.0 y.1 (below_trans up sound.parents_fall (up b) b y.0 (below_up up sound.parents_fall b) y.2)

  -- the turns of `find_ancestor`
  module _ (ok : List ℕ → Bool) where
    abbrev answer : ℕ → Option ℕ
    answer b = find_ancestor up (unlisted g.used g.rows g.heads g.tips) base ok b

    module _ (b : ℕ) (l : T (below up base b)) (v : Option (List ℕ)) (told : v ≡ at b) where
      pub ancestor_none : v ≡ None → answer b ≡ None
      unfolding find_ancestor
      ancestor_none e = rw (picked_none (outside b) v _ e (told ∙ tallied_says b l))

      module _ (bits : List ℕ) (inside : v ≡ Some bits) where
        says : (outside b ≡ false) × (bits ≡ tally up (view g) b)
        says = picked_some (outside b) v _ bits inside (told ∙ tallied_says b l)

        bits_are : (z : Bool) → ok bits ≡ z → ok (tally up (unlisted g.used g.rows g.heads g.tips) b) ≡ z
        bits_are z e = ap ok (tally_unlisted b ∙ sym says.1) ∙ e

        pub ancestor_here : ok bits ≡ true → answer b ≡ Some b
        unfolding find_ancestor
        ancestor_here e = rw says.0 (first_here up sound.parents_fall _ base b (bits_are true e))

        pub ancestor_base : ok bits ≡ false → b ≡ base → answer b ≡ None
        unfolding find_ancestor
        ancestor_base e q = rw says.0 (first_base up sound.parents_fall _ base b (bits_are false e) q)

        pub ancestor_up : ok bits ≡ false → b ≢ base → answer b ≡ answer (up b)
        unfolding find_ancestor
        ancestor_up e d =
            rw (says.0, outside_up b says.0) (first_up up sound.parents_fall _ base b (bits_are false e) d l)
