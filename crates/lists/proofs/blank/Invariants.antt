use mathlib.Core.Path.{◌≡◌}
use Prim.Native.Nat.{◌+◌}
use Rattle.columns.specs.Blank.{blank}
use Rattle.lists.proofs.blank.Given as goal

abbrev pub invariant-loop-x : goal.invariant-loop-x
invariant-loop-x g l = l.clear ≡ blank (g.T.Number.numbers l.column) l.count (l.count + l.x-index)
