use Prim.Native.Nat.{◌≤◌, ◌-◌}
use Rattle.sizes.specs.Sizes.{HISTORY}
use Rattle.tracker.specs.Recorded.{paired}
use Rattle.vote_shape.proofs.Marks.{Marked}
use Rattle.vote_shape.proofs.pairs.Given as goal

abbrev pub invariant-loop-e : goal.invariant-loop-e
invariant-loop-e l = (l.e ≤ HISTORY) × Marked HISTORY l.marks (paired l.counts) l.e

abbrev pub decreases-loop-e : goal.decreases-loop-e
decreases-loop-e l = HISTORY - l.e
