-- The vote graph by value and its shape. Document 01, "Shape rules", "Refusal numbers" 9: a graph stands on a table, and
-- both keep their rules.
use Rattle.std.specs.Prelude.{Bool, ◌&&◌, List, ℕ, ◌<◌, T, eqb, length}
use Rattle.sizes.specs.Sizes.{WORDS, BLOCKS}
use Rattle.loops.specs.All.{all}
use Rattle.grandpa.specs.Tree.{below}
use Rattle.blocks.specs.declared.BlockTable.{BlockTable}
use Rattle.block_shape.specs.Shape.{tabled}
use Rattle.nodes.specs.Nodes.{col, row}
use Rattle.nodes.specs.Columns.{Columns}
use Rattle.graph_shape.specs.Graphed.{graphed}
use Rattle.graph_rows.specs.declared.Row.{Row}
use Rattle.graph_rows.specs.Rows.{words_of, rows_of}
use Rattle.vote_graph.specs.declared.VoteGraph.{VoteGraph}

-- the columns of a graph with words beside it, as code lends them; with the words of its rows, the columns that it holds
abbrev pub lent : VoteGraph → List (List ℕ) → Columns
lent g w = record { used = g.used; above = g.above; rows = w; order = g.order; listed = g.listed; heads = g.heads; tips = g.tips }

abbrev pub columns : VoteGraph → Columns
columns g = lent g (words_of g.rows)

-- a graph of columns with rows beside them, as code makes it; with the rows of their words, the graph that they hold
abbrev pub graph_with : ℕ → Columns → List Row → VoteGraph
graph_with base c rows =
    record {
      base = base;
      used = c.used;
      above = c.above;
      rows = rows;
      order = c.order;
      listed = c.listed;
      heads = c.heads;
      tips = c.tips;
    }

abbrev pub graph_of : ℕ → Columns → VoteGraph
graph_of base c = graph_with base c (rows_of c.rows)

-- arrays of BLOCKS, rows of WORDS, which the types say of a graph in code
unfoldable pub sized : Columns → Bool
sized c =
    eqb (length c.used) BLOCKS
    && (eqb (length c.above) BLOCKS
    && (eqb (length c.rows) BLOCKS
    && (all BLOCKS (λ k. eqb (length (row c.rows k)) WORDS) && (eqb (length c.order) BLOCKS && eqb (length c.heads) BLOCKS))))

-- the table keeps its shape rules, and the graph its own on that table
unfoldable pub is_graph : VoteGraph → BlockTable → Bool
is_graph g t = tabled t && (sized (columns g) && graphed t.parents t.ids g.base t.count (columns g))

-- a block of the table, at or below the base of a graph that keeps its shape there
pub record Standing (g : VoteGraph) (t : BlockTable) (k : ℕ) : Type 0 where
  pub shaped : T (is_graph g t)
  pub inside : k < t.count
  pub in_base : T (below (col t.parents) g.base k)
