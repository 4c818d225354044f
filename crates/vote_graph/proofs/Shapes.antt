-- What the shape test of a graph on a table means, and that it is no more than that.
use mathlib.Core.Bool.{Bool, true, false}
use mathlib.Core.List.{List}
use mathlib.Core.Path.{◌≡◌, sym, ap, subst, ◌∙◌}
use Prim.Native.Nat.{ℕ}
use lib.Dec.{T, eqb, eqb→eq}
use lib.ListN.{length}
use borrow.Author.Tests.{eq-eqb}
use Rattle.sizes.specs.Sizes.{WORDS, BLOCKS}
use Rattle.loops.specs.All.{all}
use Rattle.loops.proofs.Tests.{T_true, true_T, both, left_of, right_of}
use Rattle.loops.proofs.Alls.{all_at, all_intro}
use Rattle.blocks.specs.declared.BlockTable.{BlockTable}
use Rattle.block_shape.specs.Shape.{tabled, Shaped}
use Rattle.block_shape.proofs.Shapes.{tabled_shaped}
use Rattle.nodes.specs.Nodes.{row, Falls}
use Rattle.nodes.specs.Columns.{Columns, Sized, Sound}
use Rattle.vote_insert.specs.Insert.{with_rows}
use Rattle.graph_shape.specs.Graphed.{graphed, Clear}
use Rattle.graph_shape.proofs.Graphs.{graphed_means, means_graphed}
use Rattle.graph_rows.specs.Rows.{words_of, Paired}
use Rattle.graph_rows.proofs.Copies.{words_rows}
use Rattle.vote_graph.specs.declared.VoteGraph.{VoteGraph}
use Rattle.vote_graph.specs.Shape.{lent, columns, graph_of, sized, is_graph}

-- a graph goes into columns and comes back
pub columns_of : (base : ℕ) (c : Columns) → columns (graph_of base c) ≡ c
columns_of base c = ap (with_rows c) (words_rows c.rows)

module _ (c : Columns) where
  pub sized_says : T (sized c) → Sized c
  unfolding sized
  sized_says t =
      let a = right_of (eqb (length c.used) BLOCKS) _ t in
      let b = right_of (eqb (length c.above) BLOCKS) _ a in
      let d = right_of (eqb (length c.rows) BLOCKS) _ b in
      let e = right_of (all BLOCKS (λ k. eqb (length (row c.rows k)) WORDS)) _ d in
      record {
        used_size = eqb→eq _ _ (left_of (eqb (length c.used) BLOCKS) _ t);
        above_size = eqb→eq _ _ (left_of (eqb (length c.above) BLOCKS) _ a);
        rows_size = eqb→eq _ _ (left_of (eqb (length c.rows) BLOCKS) _ b);
        row_size = λ x h. eqb→eq _ _ (all_at (λ k. eqb (length (row c.rows k)) WORDS) BLOCKS (left_of (all BLOCKS (λ k. eqb (length (row c.rows k)) WORDS)) _ d) x h);
        order_size = eqb→eq _ _ (left_of (eqb (length c.order) BLOCKS) _ e);
        heads_size = eqb→eq _ _ (right_of (eqb (length c.order) BLOCKS) _ e);
      }

  pub says_sized : Sized c → T (sized c)
  unfolding sized
  says_sized s =
      both (eqb (length c.used) BLOCKS) _ (T_true (eq-eqb _ _ s.used_size))
      (both (eqb (length c.above) BLOCKS) _ (T_true (eq-eqb _ _ s.above_size))
      (both (eqb (length c.rows) BLOCKS) _ (T_true (eq-eqb _ _ s.rows_size))
      (both (all BLOCKS (λ k. eqb (length (row c.rows k)) WORDS)) _
      (all_intro (λ k. eqb (length (row c.rows k)) WORDS) BLOCKS (λ k h. T_true (eq-eqb _ _ (s.row_size k h))))
      (both (eqb (length c.order) BLOCKS) _ (T_true (eq-eqb _ _ s.order_size)) (T_true (eq-eqb _ _ s.heads_size))))))

-- a graph that keeps its shape on a table that does
pub record Kept (g : VoteGraph) (t : BlockTable) : Type 0 where
  pub table : Shaped t
  pub sound : Sound t.parents t.ids g.base t.count (columns g)
  pub clear : Clear g.base (columns g)

pub table_falls : (t : BlockTable) → T (tabled t) → Falls t.parents
table_falls t h = (tabled_shaped t h).tree.falls

module _ (g : VoteGraph) (t : BlockTable) where
  pub is_graph_means : T (is_graph g t) → Kept g t
  unfolding is_graph
  is_graph_means h =
      let a = left_of (tabled t) _ h in
      let b = right_of (tabled t) _ h in
      let r =
      graphed_means t.parents t.ids g.base t.count (columns g) (table_falls t a) (sized_says (columns g) (left_of (sized (columns g)) _ b))
      (true_T _ (right_of (sized (columns g)) _ b)) in
      record { table = tabled_shaped t a; sound = r.0; clear = r.1 }

  pub means_is_graph : T (tabled t) → Sound t.parents t.ids g.base t.count (columns g) → Clear g.base (columns g) → T (is_graph g t)
  unfolding is_graph
  means_is_graph a s c =
      both (tabled t) _ a
      (both (sized (columns g)) _ (says_sized (columns g) s.sized)
      (T_true (means_graphed t.parents t.ids g.base t.count (columns g) s c)))

  -- the test in code: the table's, and then the graph's on its words
  pub not_graph : tabled t ≡ false → false ≡ is_graph g t
  unfolding is_graph
  not_graph e = rw e

  pub graph_is : tabled t ≡ true → (w : List (List ℕ)) → w ≡ words_of g.rows → Paired w → Sized (lent g w) → (r : Bool)
      → r ≡ graphed t.parents t.ids g.base t.count (lent g w) → r ≡ is_graph g t
  unfolding is_graph
  graph_is a w e p s r q =
      q ∙ ap (λ (v : List (List ℕ)). graphed t.parents t.ids g.base t.count (lent g v)) e
      ∙ sym (rw (a, true_T (sized (columns g)) (says_sized (columns g) (subst (λ (v : List (List ℕ)). Sized (lent g v)) e s))))
