use mathlib.Core.Path.{◌≡◌}
use Prim.Native.Nat.{◌≤◌, ◌-◌, ◌^◌}
use lib.ListN.{get_or}
use Rattle.loops.specs.Sum.{sum}
use Rattle.totals.proofs.sum.Given as goal

abbrev pub invariant-loop-weight : goal.invariant-loop-weight
invariant-loop-weight l = (l.total ≤ 2 ^ 64 - 1) × (l.total ≡ sum l.weight-index (λ j. get_or l.weights j 0))
