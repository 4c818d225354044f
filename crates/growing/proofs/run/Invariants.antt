use Prim.Native.Nat.{◌-◌}
use lib.ListN.{length}
use Rattle.runs.proofs.Loops.{Going}
use Rattle.block_index.specs.Index.{Indexed}
use Rattle.growing.specs.Growing.{grown}
use Rattle.growing.proofs.run.Given as goal

abbrev pub invariant-loop-mark : goal.invariant-loop-mark
invariant-loop-mark l =
    Going grown (record { ids = l.initial.ids; numbers = l.initial.numbers; parents = l.initial.parents; count = l.count }) l.bytes
    (record { ids = l.ids; numbers = l.numbers; parents = l.parents; count = l.blocks }) l.taken l.at
    × Indexed l.ids l.slots l.blocks

abbrev pub decreases-loop-mark : goal.decreases-loop-mark
decreases-loop-mark l = length l.bytes - l.at
