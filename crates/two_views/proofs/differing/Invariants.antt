use mathlib.Core.Path.{◌≡◌}
use Prim.Native.Nat.{◌≤◌, ◌-◌}
use Rattle.weights.specs.Weights.{most}
use Rattle.two_views.specs.Views.{differing}
use Rattle.two_views.proofs.differing.Given as goal

abbrev pub invariant-loop-voter : goal.invariant-loop-voter
invariant-loop-voter l = (l.voter ≤ l.size) × (l.sum ≤ most) × (l.sum ≡ differing l.counts l.first_block l.others l.theirs l.weights l.voter)

abbrev pub decreases-loop-voter : goal.decreases-loop-voter
decreases-loop-voter l = l.size - l.voter
