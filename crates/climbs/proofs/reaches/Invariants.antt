use mathlib.Core.Path.{◌≡◌}
use Prim.Native.Nat.{◌<◌}
use Rattle.sizes.specs.Sizes.{BLOCKS}
use Rattle.grandpa.specs.Tree.{below}
use Rattle.climbs.specs.Places.{col}
use Rattle.climbs.proofs.reaches.Given as goal

abbrev pub invariant-loop-at : goal.invariant-loop-at
invariant-loop-at l = (l.wanted ≡ l.block) × (l.at < BLOCKS) × (below (col l.parents) l.block l.from ≡ below (col l.parents) l.block l.at)

abbrev pub decreases-loop-at : goal.decreases-loop-at
decreases-loop-at l = l.at
