use mathlib.Core.Path.{◌≡◌}
use Prim.Native.Nat.{◌≤◌, ◌-◌}
use Rattle.loops.specs.Loop.{first}
use Rattle.columns.specs.Find.{is_at}
use Rattle.columns.proofs.skip.Given as goal
use Rattle.std.specs.Prelude.{Some, None}

abbrev pub invariant-loop-from : goal.invariant-loop-from
invariant-loop-from l = (l.from ≤ l.end) × (first (is_at l.column l.x) Some None l.end 0 ≡ first (is_at l.column l.x) Some None (l.end - l.from) l.from)

abbrev pub decreases-loop-from : goal.decreases-loop-from
decreases-loop-from l = l.end - l.from
