use mathlib.Core.Path.{◌≡◌}
use Rattle.loops.specs.All.{any}
use Rattle.columns.specs.Find.{is_at}
use Rattle.columns.proofs.contains.Given as goal

abbrev pub invariant-loop-y : goal.invariant-loop-y
invariant-loop-y l = l.seen ≡ any l.y-index (is_at l.column l.x)
