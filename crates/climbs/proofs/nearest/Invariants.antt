use mathlib.Core.Path.{◌≡◌}
use Prim.Native.Nat.{◌<◌}
use Rattle.sizes.specs.Sizes.{BLOCKS}
use Rattle.graph.specs.Search.{nearest}
use Rattle.climbs.specs.Places.{col, flag}
use Rattle.climbs.proofs.nearest.Given as goal

abbrev pub invariant-loop-at : goal.invariant-loop-at
invariant-loop-at l = (l.at < BLOCKS) × (nearest (col l.parents) (flag l.used) l.block ≡ nearest (col l.parents) (flag l.used) l.at)

abbrev pub decreases-loop-at : goal.decreases-loop-at
decreases-loop-at l = l.at
