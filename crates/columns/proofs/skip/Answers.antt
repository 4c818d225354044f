use mathlib.Core.Path.{sym, ◌∙◌}
use Prim.Native.Nat.{◌≤◌, ◌+◌}
use native.Mathlib.Omega.{arith}
use native.Mathlib.Nat.{sub-zero}
use Rattle.columns.proofs.Finds.{skip_eight}
use Rattle.columns.proofs.skip.Goals as goal

pub loop-from-init : goal.loop-from-init
loop-from-init c = (omega arith, rw sub-zero)

pub loop-from-preserved : goal.loop-from-preserved
loop-from-preserved c =
    let h : c.loop-from.from + 8 ≤ c.args.end = omega arith in
    (omega arith, c.loop-from.invariant.1 ∙ skip_eight c.args.column.now c.args.x _ _ h (sym c.eight.ensures ∙ c.if-eight.false))
