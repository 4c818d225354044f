use mathlib.Core.Path.{◌≡◌}
use Prim.Native.Nat.{◌<◌}
use Rattle.sizes.specs.Sizes.{BLOCKS}
use Rattle.grandpa.specs.Tree.{below}
use Rattle.nodes.specs.Nodes.{col}
use Rattle.judging.proofs.is_inside.Given as goal

abbrev pub invariant-loop-at : goal.invariant-loop-at
invariant-loop-at l = (l.wanted ≡ l.base) × (l.at < BLOCKS) × (below (col l.parents) l.base l.block ≡ below (col l.parents) l.base l.at)

abbrev pub decreases-loop-at : goal.decreases-loop-at
decreases-loop-at l = l.at
