-- A new graph keeps the shape rules on every table that keeps its own and has the base; a vote keeps them; a refusal hands
-- the graph back equal.
use mathlib.Core.Bool.{Bool, true, false, cond}
use mathlib.Core.Path.{◌≡◌, refl, sym, subst}
use Prim.Native.Nat.{ℕ, ◌<◌}
use native.Mathlib.Omega.{arith}
use lib.Dec.{T}
use Rattle.blocks.specs.declared.BlockTable.{BlockTable}
use Rattle.block_shape.specs.Shape.{tabled}
use Rattle.block_shape.proofs.Shapes.{tabled_shaped, shaped_tabled}
use Rattle.nodes.specs.Columns.{Columns, Sound}
use Rattle.graph_shape.specs.Graphed.{Clear}
use Rattle.vote_insert.specs.Insert.{opened, inserted}
use Rattle.vote_insert.proofs.Keeps.{sound_inserted}
use Rattle.vote_insert.proofs.Opens.{sound_opened}
use Rattle.vote_graph.specs.declared.VoteGraph.{VoteGraph}
use Rattle.vote_graph.specs.Shape.{columns, graph_of, is_graph, Standing}
use Rattle.vote_graph.specs.Target.{target, on_target}
use Rattle.vote_graph.specs.Calls.{voted, refused, placed, insert}
use Rattle.vote_graph.proofs.Shapes.{columns_of, table_falls, is_graph_means, means_is_graph}
use Rattle.vote_graph.proofs.Standings.{apart_in, target_stands}
use Rattle.vote_graph.proofs.Clears.{clear_opened, clear_inserted}
use Rattle.std.specs.Prelude.{Result, Ok, Err}
use Rattle.refusals.specs.declared.Refusal.{Refusal}
use Rattle.refusals.specs.declared.Refusal.TheVariants.{Misshapen}

-- columns that are sound and clear make a graph that keeps its shape
pub graph_kept : (t : BlockTable) (base : ℕ) (c : Columns) → T (tabled t) → Sound t.parents t.ids base t.count c → Clear base c
    → T (is_graph (graph_of base c) t)
graph_kept t base c a s z =
    means_is_graph (graph_of base c) t a (subst (Sound t.parents t.ids base t.count) (sym (columns_of base c)) s)
    (subst (Clear base) (sym (columns_of base c)) z)

pub new_kept : (t : BlockTable) (base : ℕ) → T (tabled t) → base < t.count → T (is_graph (graph_of base (opened base)) t)
new_kept t base a h =
    graph_kept t base (opened base) a
    (sound_opened t.parents t.ids (table_falls t a) base t.count h (tabled_shaped t a).few) (clear_opened base)

pub voted_kept : (g : VoteGraph) (t : BlockTable) (k bit : ℕ) → Standing g t k → T (is_graph (voted g t k bit) t)
unfolding voted
voted_kept g t k bit s =
    let r = is_graph_means g t s.shaped in
    graph_kept t g.base (inserted t.parents t.ids g.base k bit (columns g)) (shaped_tabled t r.table)
    (sound_inserted t.parents t.ids g.base t.count k s.in_base s.inside (columns g) r.sound (apart_in g t k s) bit)
    (clear_inserted t.parents t.ids g.base t.count k s.in_base s.inside (columns g) r.sound r.clear (apart_in g t k s) bit)

module _ (g : VoteGraph) (t : BlockTable) (id bit : ℕ) where
  pub insert_keeps : T (is_graph g t) → T (is_graph (insert g t id bit).graph t)
  unfolding insert
  insert_keeps h = gate (is_graph g t) refl
    where
      go : is_graph g t ≡ true → (x : Result ℕ Refusal) → target t.ids t.parents t.count g.base id ≡ x → T (is_graph (on_target x (placed g t bit) (refused g)).graph t)
      go q (Ok k) e = voted_kept g t k bit (target_stands g t q id k e)
      go q (Err n) e = h

      gate : (b : Bool) → is_graph g t ≡ b
          → T (is_graph (cond b (on_target (target t.ids t.parents t.count g.base id) (placed g t bit) (refused g)) (refused g Misshapen)).graph t)
      gate true q = go q (target t.ids t.parents t.count g.base id) refl
      gate false q = h

  pub insert_refused : (n : Refusal) → (insert g t id bit).answer ≡ Err n → (insert g t id bit).graph ≡ g
  unfolding insert
  insert_refused n e = gate (is_graph g t) e
    where
      go : (x : Result ℕ Refusal) → (on_target x (placed g t bit) (refused g)).answer ≡ Err n → (on_target x (placed g t bit) (refused g)).graph ≡ g
      go (Ok k) q = absurd (let z : ◌≡◌ {A = ℕ} 0 1 = cc in omega arith)
      go (Err m) q = refl

      gate : (b : Bool) → (cond b (on_target (target t.ids t.parents t.count g.base id) (placed g t bit) (refused g)) (refused g Misshapen)).answer ≡ Err n
          → (cond b (on_target (target t.ids t.parents t.count g.base id) (placed g t bit) (refused g)) (refused g Misshapen)).graph ≡ g
      gate true q = go (target t.ids t.parents t.count g.base id) q
      gate false q = refl
