use mathlib.Core.Path.{◌≡◌}
use lib.Dec.{T}
use Rattle.grandpa.specs.Tree.{below}
use Rattle.graph.specs.Ghost.{find_ancestor}
use Rattle.nodes.specs.Nodes.{col}
use Rattle.vote_search.specs.Searches.{unlisted}
use Rattle.vote_search.proofs.find_ancestor.Given as goal

abbrev pub invariant-loop-bits : goal.invariant-loop-bits
invariant-loop-bits g l =
    T (below (col l.parents) l.base l.at)
    × (find_ancestor (col l.parents) (unlisted l.used l.rows l.heads l.tips) l.base (g.Q.Asks.asks l.question) l.block
    ≡ find_ancestor (col l.parents) (unlisted l.used l.rows l.heads l.tips) l.base (g.Q.Asks.asks l.question) l.at)

abbrev pub decreases-loop-bits : goal.decreases-loop-bits
decreases-loop-bits g l = l.at
