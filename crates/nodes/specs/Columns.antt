-- The vote graph in columns. Document 01, "Forms that must change": arrays with counts, kept in the Rust's order; "Shape
-- rules": every node but the base listed once, under the nearest node above it; heads the nodes that list none.
use Rattle.std.specs.Prelude.{Bool, List, ◌≡◌, ◌≢◌, ℕ, ◌≤◌, ◌<◌, T, length}
use Rattle.sizes.specs.Sizes.{WORDS, BLOCKS}
use Rattle.lent.specs.Moment.{Moment}
use Rattle.loops.specs.Listing.{front}
use Rattle.columns.specs.Lists.{padded}
use Rattle.graph.specs.Search.{nearest}
use Rattle.graph.specs.Graph.{Graph}
use Rattle.graph.specs.Shape.{Nodes}
use Rattle.nodes.specs.Nodes.{col, flag, row, Falls}

-- the columns that a vote changes
pub record Columns : Type 0 where
  pub used : List Bool
  pub above : List ℕ
  pub rows : List (List ℕ)
  pub order : List ℕ
  pub listed : ℕ
  pub heads : List ℕ
  pub tips : ℕ

-- the columns as code is lent them
abbrev pub graph_at : (m : Moment) → m.Column (List Bool) → m.Column (List ℕ) → m.Column (List (List ℕ)) → m.Column (List ℕ) → ℕ
    → m.Column (List ℕ) → ℕ → Columns
graph_at m used above rows order listed heads tips =
    record {
      used = m.list (List Bool) used;
      above = m.list (List ℕ) above;
      rows = m.list (List (List ℕ)) rows;
      order = m.list (List ℕ) order;
      listed = listed;
      heads = m.list (List ℕ) heads;
      tips = tips;
    }

-- the graph that they hold
abbrev pub view : Columns → Graph
view g = record { used = flag g.used; bits = row g.rows; order = front g.listed g.order; heads = front g.tips g.heads }

-- what the arrays are by their types
pub record Sized (g : Columns) : Type 0 where
  pub used_size : length g.used ≡ BLOCKS
  pub above_size : length g.above ≡ BLOCKS
  pub rows_size : length g.rows ≡ BLOCKS
  pub row_size : (x : ℕ) → x < BLOCKS → length (row g.rows x) ≡ WORDS
  pub order_size : length g.order ≡ BLOCKS
  pub heads_size : length g.heads ≡ BLOCKS

-- columns that keep the shape rules of a vote graph, on a table of `count` blocks by their parents and ids
pub record Sound (parents ids : List ℕ) (base count : ℕ) (g : Columns) : Type 0 where
  pub parents_fall : Falls parents
  pub above_falls : Falls g.above
  pub nodes : Nodes (col parents) (col ids) base count (flag g.used) (front g.listed g.order) (front g.tips g.heads)
  pub small : count ≤ BLOCKS
  pub tied : (x : ℕ) → T (flag g.used x) → x ≢ base → col g.above x ≡ nearest (col parents) (flag g.used) (col parents x)
  pub listed_fits : g.listed ≤ BLOCKS
  pub tips_fit : g.tips ≤ BLOCKS
  pub sized : Sized g
  pub order_clear : g.order ≡ padded BLOCKS (front g.listed g.order)
  pub heads_clear : g.heads ≡ padded BLOCKS (front g.tips g.heads)

-- an answer as the code gives it
