use mathlib.Core.Path.{◌≡◌}
use Prim.Native.Nat.{◌<◌}
use Rattle.sizes.specs.Sizes.{BLOCKS}
use Rattle.graph.specs.Ghost.{towards}
use Rattle.climbs.specs.Places.{col}
use Rattle.climbs.proofs.towards.Given as goal

abbrev pub invariant-loop-at : goal.invariant-loop-at
invariant-loop-at l = (l.at < BLOCKS) × (towards (col l.parents) l.block l.from ≡ towards (col l.parents) l.block l.at)

abbrev pub decreases-loop-at : goal.decreases-loop-at
decreases-loop-at l = l.at
