use mathlib.Core.Path.{◌≡◌}
use Prim.Native.Nat.{◌≤◌, ◌<◌, ◌-◌, max}
use Rattle.voter_shape.specs.Sound.{rising}
use Rattle.voter_shape.proofs.rising.Given as goal

abbrev pub invariant-loop-k : goal.invariant-loop-k
invariant-loop-k l = (0 < l.k) × (l.k ≤ max 1 l.count) × (l.ok ≡ rising l.ids l.k)

abbrev pub decreases-loop-k : goal.decreases-loop-k
decreases-loop-k l = l.count - l.k
