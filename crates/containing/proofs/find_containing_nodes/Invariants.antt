use lib.ListN.{get_or}
use Rattle.climbs.specs.Places.{col, Falls}
use Rattle.containing.proofs.Search.{Way, upto, Between}
use Rattle.containing.proofs.find_containing_nodes.Given as goal

abbrev pub invariant-loop-node : goal.invariant-loop-node
invariant-loop-node l =
    (falls : Falls l.above) → Between (col l.parents) (col l.above) falls l.block l.heads l.initial.visited l.places l.count l.head-index
    × Way (col l.parents) (col l.above) falls l.block l.visited (upto (col l.parents) (col l.above) falls l.block l.heads l.head-index) (get_or l.heads l.head-index 0) l.node

abbrev pub decreases-loop-node : goal.decreases-loop-node
decreases-loop-node l = l.node

abbrev pub invariant-next : goal.invariant-next
invariant-next l =
    (falls : Falls l.above) → Between (col l.parents) (col l.above) falls l.block l.heads l.visited l.places l.count l.head-index
