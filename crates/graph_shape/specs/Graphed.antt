-- The shape rules of a vote graph, as a test. Document 01, "Shape rules": counts within sizes; vote-nodes in the table, at
-- or below the base; every node but the base listed once, under the nearest node above it; heads the nodes that list none;
-- unused places 0. The Rust keeps heads by rising id.
use Rattle.std.specs.Prelude.{Bool, false, not, ◌&&◌, List, ◌≡◌, ℕ, ◌<◌, T, leb, ltb, set}
use Rattle.loops.specs.Listing.{front}
use Rattle.graph.specs.Graph.{no_bits}
use Rattle.nodes.specs.Nodes.{col, flag, row}
use Rattle.nodes.specs.Columns.{Columns}
use Rattle.graph_sweeps.specs.Swept.{inside, tied}
use Rattle.sizes.specs.Sizes.{BLOCKS}
use Rattle.lists.specs.Laid.{laid}
use Rattle.graph_lists.specs.Listed.{childless, rising, bare}

-- counts within sizes; the base is a block of the table, and a node
unfoldable pub counted : ℕ → ℕ → List Bool → ℕ → ℕ → Bool
counted count base used listed tips =
    leb count BLOCKS && (leb listed BLOCKS && (leb tips BLOCKS && (ltb base count && flag used base)))

-- the nodes but the base
abbrev pub others : List Bool → ℕ → List Bool
others used base = set used base false

-- the whole test; `graphed_means` and `means_graphed` say that it passes on the columns that are `Sound` and `Clear`
unfoldable pub graphed : List ℕ → List ℕ → ℕ → ℕ → Columns → Bool
graphed parents ids base count g =
    counted count base g.used g.listed g.tips
    && (inside parents count base g.used
    && (tied parents g.used (others g.used base) g.above
    && (laid BLOCKS g.order g.listed (others g.used base)
    && (laid BLOCKS g.heads g.tips (childless g.used g.above (front g.listed g.order))
    && (rising ids g.heads g.tips && bare g.used g.rows)))))

-- what `Sound` leaves open: unused places 0
pub record Clear (base : ℕ) (g : Columns) : Type 0 where
  pub base_above : col g.above base ≡ 0
  pub bare_above : (k : ℕ) → T (not (flag g.used k)) → col g.above k ≡ 0
  pub bare_rows : (k : ℕ) → k < BLOCKS → T (not (flag g.used k)) → row g.rows k ≡ no_bits
