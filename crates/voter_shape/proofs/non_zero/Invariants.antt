use mathlib.Core.Path.{◌≡◌}
use Rattle.voter_shape.specs.Sound.{non_zero}
use Rattle.voter_shape.proofs.non_zero.Given as goal

abbrev pub invariant-loop-weight : goal.invariant-loop-weight
invariant-loop-weight l = l.ok ≡ non_zero l.weights l.weight-index
