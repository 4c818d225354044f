use mathlib.Core.Path.{◌≡◌}
use Rattle.loops.specs.Listing.{front}
use Rattle.nodes.specs.Nodes.{col}
use Rattle.lists.specs.Laid.{struck}
use Rattle.graph_lists.proofs.childless.Given as goal

abbrev pub invariant-loop-node : goal.invariant-loop-node
invariant-loop-node l = l.left ≡ struck (col l.above) (front l.node-index l.order) l.used
