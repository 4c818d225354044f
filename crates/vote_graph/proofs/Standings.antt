-- What a block that a call names has, and what the inner calls ask of it.
use mathlib.Core.Bool.{Bool, true, false, cond}
use mathlib.Core.List.{List}
use mathlib.Core.Path.{◌≡◌, refl, sym, ap, subst, ◌∙◌}
use mathlib.Core.Logic.{◌≢◌}
use Prim.Native.Nat.{ℕ, ◌≤◌, ◌<◌}
use native.Mathlib.Omega.{arith}
use lib.Dec.{T, ltb, ltb→lt}
use lib.ListN.{length}
use Rattle.sizes.specs.Sizes.{BLOCKS}
use Rattle.loops.proofs.Tests.{T_true}
use Rattle.grandpa.specs.Tree.{below}
use Rattle.grandpa.proofs.Trees.{below_refl}
use Rattle.blocks.specs.declared.BlockTable.{BlockTable}
use Rattle.blocks.specs.Add.{place_of, on_place}
use Rattle.block_laws.proofs.Adds.{found_stands}
use Rattle.graph.specs.Ghost as steps
use Rattle.graph.specs.Graph.{no_bits, tally}
use Rattle.nodes.specs.Nodes.{col, flag, Falls}
use Rattle.nodes.specs.Columns.{Columns, Sound, view}
use Rattle.graph_rows.specs.declared.Row.{Row}
use Rattle.graph_rows.specs.Rows.{words_of, rows_of}
use Rattle.vote_insert.specs.Insert.{inserted, Insertable}
use Rattle.vote_insert.proofs.Keeps.{insertable, sound_inserted}
use Rattle.vote_search.specs.Searches.{tallied, unlisted, Stands}
use Rattle.vote_search.proofs.Ancestors.{tallied_is}
use Rattle.vote_graph.specs.declared.VoteGraph.{VoteGraph}
use Rattle.vote_graph.specs.Shape.{lent, columns, graph_with, graph_of, is_graph, Standing}
use Rattle.vote_graph.specs.Target.{in_base, target, start, on_target}
use Rattle.vote_graph.specs.Calls.{voted, tally_of, ancestor_of, ghost_of}
use Rattle.vote_graph.proofs.Shapes.{Kept, is_graph_means}
use Rattle.std.specs.Bool.{then_some}
use Rattle.std.specs.Prelude.{Option, Some, None, Result, Ok, Err, unwrap_or}
use Rattle.refusals.specs.declared.Refusal.{Refusal}
use Rattle.refusals.specs.declared.Refusal.TheVariants.{OffTheBase, UnknownTarget}

at_most_one : {e : Refusal} {k : ℕ} → ◌≡◌ {A = Result ℕ Refusal} (Err e) (Ok k) → ⊥
at_most_one q = let z : ◌≡◌ {A = ℕ} 0 1 = cc in omega arith

same_place : {j k : ℕ} → ◌≡◌ {A = Result ℕ Refusal} (Ok j) (Ok k) → j ≡ k
same_place e = ap (λ (x : Result ℕ Refusal). on_target x (λ n. n) (λ r. 0)) e

in_base_at : (parents : List ℕ) (base j k : ℕ) → in_base parents base j ≡ Ok k → (j ≡ k) × T (below (col parents) base j)
unfolding in_base
in_base_at parents base j k e = go (below (col parents) base j) refl e
  where
    go : (b : Bool) → below (col parents) base j ≡ b → ◌≡◌ {A = Result ℕ Refusal} (cond b (Ok j) (Err OffTheBase)) (Ok k) → (j ≡ k) × T (below (col parents) base j)
    go true q r = (same_place r, T_true q)
    go false q r = absurd (at_most_one r)

module _ (g : VoteGraph) (t : BlockTable) (h : is_graph g t ≡ true) where
  kept : Kept g t
  kept = is_graph_means g t (T_true h)

  pub gate_falls : Falls t.parents
  gate_falls = kept.table.tree.falls

  pub gate_few : t.count ≤ BLOCKS
  gate_few = kept.table.few

  stands_in : (j k : ℕ) → j < t.count → in_base t.parents g.base j ≡ Ok k → Standing g t k
  stands_in j k l e =
      let r = in_base_at t.parents g.base j k e in
      subst (Standing g t) r.0 (record { shaped = T_true h; inside = l; in_base = r.1 })

  pub found_in : (id k : ℕ) → place_of t.ids t.count id ≡ Some k → k < t.count
  found_in id k e = (found_stands t kept.table id k e).inside

  pub target_stands : (id k : ℕ) → target t.ids t.parents t.count g.base id ≡ Ok k → Standing g t k
  unfolding target
  target_stands id k e = go (place_of t.ids t.count id) refl e
    where
      go : (p : Option ℕ) → place_of t.ids t.count id ≡ p → on_place p (in_base t.parents g.base) (Err UnknownTarget) ≡ Ok k → Standing g t k
      go (Some j) q r = stands_in j k (found_in id j q) r
      go None q r = absurd (at_most_one r)

  pub start_stands : (from : Option ℕ) (k : ℕ) → start t.parents t.count g.base from ≡ Ok k → Standing g t k
  unfolding start
  start_stands None k e =
      subst (Standing g t) (same_place e)
      (record {
        shaped = T_true h;
        inside = kept.sound.nodes.tabled g.base kept.sound.nodes.base_used;
        in_base = below_refl (col t.parents) gate_falls g.base;
      })
  start_stands (Some j) k e = go (ltb j t.count) refl e
    where
      go : (b : Bool) → ltb j t.count ≡ b → cond b (in_base t.parents g.base j) (Err UnknownTarget) ≡ Ok k → Standing g t k
      go true q r = stands_in j k (ltb→lt j t.count (T_true q)) r
      go false q r = absurd (at_most_one r)

-- ids are distinct
pub apart_in : (g : VoteGraph) (t : BlockTable) (k : ℕ) → Standing g t k → (y : ℕ) → T (flag g.used y) → y ≢ k → col t.ids y ≢ col t.ids k
apart_in g t k s y u n q =
    let r = is_graph_means g t s.shaped in
    n (r.table.distinct (col t.ids k) y k (record { inside = r.sound.nodes.tabled y u; named = q }) (record { inside = s.inside; named = refl }))

-- on the words that the code lends
module _ (g : VoteGraph) (t : BlockTable) (k : ℕ) (s : Standing g t k) (w : List (List ℕ)) (e : w ≡ words_of g.rows) where
  all_kept : Kept g t
  all_kept = is_graph_means g t s.shaped

  sound_lent : Sound t.parents t.ids g.base t.count (lent g w)
  sound_lent = subst (λ (v : List (List ℕ)). Sound t.parents t.ids g.base t.count (lent g v)) (sym e) all_kept.sound

  pub standing_insertable : Insertable t.parents t.ids k (lent g w)
  standing_insertable = insertable t.parents t.ids g.base t.count k s.in_base s.inside (lent g w) sound_lent (apart_in g t k s)

  pub standing_rows : (bit : ℕ) (n : Columns) → n ≡ inserted t.parents t.ids g.base k bit (lent g w) → length n.rows ≡ BLOCKS
  standing_rows bit n q =
      ap (λ (c : Columns). length c.rows) q
      ∙ (sound_inserted t.parents t.ids g.base t.count k s.in_base s.inside (lent g w) sound_lent (apart_in g t k s) bit).sized.rows_size

  pub standing_stands : Stands t.parents g.base (lent g w) k
  standing_stands = record { ids = t.ids; count = t.count; sound = sound_lent; in_base = s.in_base }

  pub standing_tally : Falls t.parents × Falls g.above × (g.tips ≤ BLOCKS)
  standing_tally = (sound_lent.parents_fall, sound_lent.above_falls, sound_lent.tips_fit)

module _ (g : VoteGraph) (t : BlockTable) (k : ℕ) (w : List (List ℕ)) (e : w ≡ words_of g.rows) where
  pub voted_is : (bit : ℕ) (n : Columns) → n ≡ inserted t.parents t.ids g.base k bit (lent g w) → (rs : List Row) → rs ≡ rows_of n.rows
      → graph_with g.base n rs ≡ voted g t k bit
  unfolding voted
  voted_is bit n q rs r =
      ap (graph_with g.base n) r
      ∙ ap (graph_of g.base) q
      ∙ ap (λ (v : List (List ℕ)). graph_of g.base (inserted t.parents t.ids g.base k bit (lent g v))) e

  pub tally_is : (r : Option (List ℕ)) → r ≡ tallied t.parents g.used g.above w g.heads g.tips k → r ≡ tally_of g t k
  unfolding tally_of
  tally_is r q = q ∙ ap (λ (v : List (List ℕ)). tallied t.parents g.used g.above v g.heads g.tips k) e

  module _ (ok : List ℕ → Bool) where
    pub ancestor_is : (r : Option ℕ)
        → r ≡ (steps.find_ancestor (col t.parents) (unlisted g.used w g.heads g.tips) g.base ok k)
        → r ≡ ancestor_of g t ok k
    unfolding ancestor_of steps.find_ancestor tally
    ancestor_is r p =
        p ∙ ap (λ (v : List (List ℕ)). (steps.find_ancestor (col t.parents) (unlisted g.used v g.heads g.tips) g.base ok k)) e

    pub ghost_is : (r : Option ℕ) → r ≡ (steps.find_ghost (col t.parents) (view (lent g w)) ok k) → r ≡ ghost_of g t ok k
    unfolding ghost_of
    ghost_is r p = p ∙ ap (λ (v : List (List ℕ)). (steps.find_ghost (col t.parents) (view (lent g v)) ok k)) e

-- the bits that `cumulative_vote` gives are the graph's
pub tally_told : (g : VoteGraph) (t : BlockTable) (k : ℕ) → Standing g t k → unwrap_or (tally_of g t k) no_bits ≡ tally (col t.parents) (view (columns g)) k
unfolding tally_of
tally_told g t k s =
    tallied_is t.parents t.ids g.base t.count (columns g) (is_graph_means g t s.shaped).sound k s.in_base
