-- A search down the vote graph ends at or below the base where it starts there.
use mathlib.Core.Bool.{Bool}
use mathlib.Core.List.{List, [], ◌∷◌}
use mathlib.Core.Path.{refl, subst}
use mathlib.Core.Logic.{◌≢◌}
use Prim.Native.Nat.{ℕ, zero, suc, ◌<◌}
use native.Mathlib.Omega.{arith}
use lib.Dec.{T, eqb, leb}
use borrow.Author.Tests.{eqb-false}
use Rattle.sizes.specs.Sizes.{BLOCKS}
use Rattle.loops.specs.Listing.{times, keep}
use Rattle.loops.proofs.Tests.{by_test, false_T}
use Rattle.loops.proofs.Listings.{times_here, times_more}
use Rattle.grandpa.specs.Tree.{below}
use Rattle.grandpa.proofs.Trees.{below_refl, below_trans, child_below}
use Rattle.context.specs.declared.Phase.{Phase}
use Rattle.context.specs.declared.Phase.TheVariants.{Prevote, Precommit}
use Rattle.graph.specs.Graph.{tally, children}
use Rattle.graph.specs.Ghost.{towards, first_in, meets, merge, settle, under, following, find_ghost}
use Rattle.graph.proofs.Followed.{under_is, towards_says}
use Rattle.nodes.specs.Nodes.{col, Falls, passes}
use Rattle.nodes.specs.Columns.{Columns, Sound, view}
use Rattle.vote_merge.specs.Merges.{Lower}
use Rattle.vote_merge.proofs.Meetings.{meets_at}
use Rattle.vote_merge.proofs.Lowers.{lower_kept}
use Rattle.vote_search.proofs.Descents.{lower_following, lower_children}
use Rattle.answers.specs.declared.Answers.{Answers}
use Rattle.answers.specs.declared.Heard.{Heard}
use Rattle.answers.specs.Update.{Scene, weighty, start_of, ghost_from, phase_ghost, with_ghost, InBase, Grounded}
use Rattle.answers.proofs.Steps.{start_in}
use Rattle.std.specs.Prelude.{Option, Some, None}

-- the first that passes is in the list
first_there : (p : ℕ → Bool) (l : List ℕ) → first_in p l ≢ 0 → 0 < times (first_in p l) l
unfolding first_in
first_there p [] d = absurd (d refl)
first_there p (x ∷ l) d =
    by_test (λ (y : ℕ). y ≢ 0 → 0 < times y (x ∷ l)) (p x) x (first_in p l) (λ t e. omega (arith, times_here x l))
    (λ t e. times_more (first_in p l) x l (first_there p l e)) d

module _ (parents : List ℕ) (falls : Falls parents) where
  abbrev up : ℕ → ℕ
  up = col parents

  meets_in : (bits : ℕ → List ℕ) (ok : List ℕ → Bool) (b : ℕ) (ns : List ℕ) → Lower parents b ns → meets up bits ok b [] ns ≢ 0
      → T (below up b (meets up bits ok b [] ns))
  meets_in bits ok b ns lower d =
      let r = meets_at up bits b ok ns [] d in
      subst (λ (c : ℕ). T (below up b c)) r.2
      (child_below up falls b (towards up b r.0) (towards_says up falls b r.0 (lower r.0 r.1)).0).0

  merge_in : (bits : ℕ → List ℕ) (ok : List ℕ → Bool) (f b : ℕ) (ns : List ℕ) → Lower parents b ns → T (below up b (merge up bits ok f b ns))
  unfolding merge
  merge_in bits ok zero b ns lower = below_refl up falls b
  merge_in bits ok (suc f) b ns lower =
      by_test (λ (r : ℕ). T (below up b r)) (eqb (meets up bits ok b [] ns) 0) b _ (λ t. below_refl up falls b)
      (λ t.
      below_trans up falls b (meets up bits ok b [] ns) _ (meets_in bits ok b ns lower (eqb-false _ _ (false_T _ t)))
      (merge_in bits ok f (meets up bits ok b [] ns) (keep (under up (meets up bits ok b [] ns)) ns) (lower_kept parents _ ns)))

module _ (parents ids : List ℕ) (base count : ℕ) (g : Columns) (sound : Sound parents ids base count g) (ok : List ℕ → Bool) where
  settle_in : (f b : ℕ) (ns : List ℕ) → Lower parents b ns → T (below (col parents) b (settle (col parents) (view g) ok f b ns))
  unfolding settle
  settle_in zero b ns lower = below_refl (col parents) sound.parents_fall b
  settle_in (suc f) b ns lower =
      let p : ℕ → Bool = λ n. ok ((view g).bits n) in
      by_test (λ (r : ℕ). T (below (col parents) b r)) (eqb (first_in p ns) 0) _ _
      (λ t. merge_in parents sound.parents_fall (view g).bits ok BLOCKS b ns lower)
      (λ t.
      below_trans (col parents) sound.parents_fall b (first_in p ns) _
      (under_is (col parents) sound.parents_fall b (first_in p ns) (lower _ (first_there p ns (eqb-false _ _ (false_T _ t))))).0
      (settle_in f (first_in p ns) (children (col parents) (view g) (first_in p ns)) (lower_children parents ids base count g sound (first_in p ns))))

  ghost_in : (b : ℕ) → T (below (col parents) base b) → InBase parents base ((find_ghost (col parents) (view g) ok b))
  unfolding find_ghost
  ghost_in b h =
      by_test (λ (o : Option ℕ). InBase parents base o) (ok (tally (col parents) (view g) b)) (Some (settle (col parents) (view g) ok BLOCKS b (following (col parents) (view g) b))) None
      (λ t. below_trans (col parents) sound.parents_fall base b _ h (settle_in BLOCKS b _ (lower_following parents ids base count g sound b))) (λ t. tt)

-- the stored prevote-GHOST stays at or below the base
pub renewed_in : (s : Scene) → Grounded s.parents s.base s.graph → (heard : Heard) (phase : Phase) (a : Answers)
    → InBase s.parents s.base a.prevote → InBase s.parents s.base (with_ghost s heard phase a).prevote
unfolding phase_ghost
renewed_in s g heard Prevote a h =
    by_test (InBase s.parents s.base) (leb s.threshold heard.prevote)
    (ghost_from s.parents s.weights s.graph (weighty s Prevote) (start_of a.prevote s.base)) a.prevote
    (λ t.
    ghost_in s.parents g.ids s.base g.count s.graph g.sound (passes s.weights (weighty s Prevote))
    (start_of a.prevote s.base) (start_in s.parents s.base s.graph g a.prevote h))
    (λ t. h)
renewed_in s g heard Precommit a h = h
