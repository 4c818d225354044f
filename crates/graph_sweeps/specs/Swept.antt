-- The shape rules of a vote graph that go by the blocks above. Document 01, "Shape rules": vote-nodes in the table, at or
-- below the base; every node but the base under the nearest node above it; unused places 0.
use Rattle.std.specs.Prelude.{Bool, cond, not, ◌&&◌, ◌||◌, List, ℕ, eqb, ltb}
use Rattle.sizes.specs.Sizes.{BLOCKS}
use Rattle.loops.specs.All.{all}
use Rattle.grandpa.specs.Tree.{below}
use Rattle.graph.specs.Search.{nearest}
use Rattle.nodes.specs.Nodes.{col, flag}

-- a node is in the table, at or below the base
unfoldable pub inside : List ℕ → ℕ → ℕ → List Bool → Bool
inside parents count base used = all BLOCKS (λ k. not (flag used k) || (ltb k count && below (col parents) base k))

-- each of the nodes but the base has the nearest node above it, every other place 0
unfoldable pub tied : List ℕ → List Bool → List Bool → List ℕ → Bool
tied parents used rest above =
    all BLOCKS (λ k. eqb (col above k) (cond (flag rest k) (nearest (col parents) (flag used) (col parents k)) 0))
