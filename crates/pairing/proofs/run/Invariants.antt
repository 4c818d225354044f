use Prim.Native.Nat.{◌-◌, ◌≤◌}
use lib.ListN.{length}
use Rattle.sizes.specs.Sizes.{PAIRS}
use Rattle.runs.proofs.Loops.{Going}
use Rattle.pairing.specs.Pairing.{paired}
use Rattle.pairing.proofs.run.Given as goal

abbrev pub invariant-loop-mark : goal.invariant-loop-mark
invariant-loop-mark l =
    Going paired (record { ids = l.initial.ids; weights = l.initial.weights; count = l.count }) l.bytes (record { ids = l.ids; weights = l.weights; count = l.pairs }) l.taken l.at
    × (l.pairs ≤ PAIRS)

abbrev pub decreases-loop-mark : goal.decreases-loop-mark
decreases-loop-mark l = length l.bytes - l.at
