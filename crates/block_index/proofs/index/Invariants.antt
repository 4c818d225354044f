use mathlib.Core.Path.{◌≡◌}
use Prim.Native.Nat.{◌≤◌}
use Rattle.block_index.specs.Index.{indexed}
use Rattle.block_index.proofs.index.Given as goal

abbrev pub invariant-loop-place : goal.invariant-loop-place
invariant-loop-place l = (l.place ≤ l.count) × (indexed l.ids l.place l.slots ≡ indexed l.ids l.count l.initial.slots)
