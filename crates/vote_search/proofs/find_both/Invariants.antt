use Rattle.nodes.specs.Nodes.{col}
use Rattle.vote_search.specs.Searches.{unlisted}
use Rattle.vote_search.proofs.Together.{On}
use Rattle.vote_search.proofs.find_both.Given as goal

abbrev pub invariant-loop-bits : goal.invariant-loop-bits
invariant-loop-bits l =
    On (col l.parents) (unlisted l.used l.rows l.heads l.tips) l.base l.weights l.equivocations l.still l.block l.here l.possible

abbrev pub decreases-loop-bits : goal.decreases-loop-bits
decreases-loop-bits l =
    l.here
