use mathlib.Core.Path.{◌≡◌}
use Prim.Native.Nat.{◌<◌}
use native.Mathlib.Omega.{arith}
use Rattle.std.proofs.lemmas.List.{length-take-le}
use Rattle.loops.proofs.Alls.{any_none, any_more}
use Rattle.columns.specs.Find.{is_at, used, contains}
use Rattle.columns.proofs.Finds.{at_front}
use Rattle.columns.proofs.contains.Goals as goal

pub loop-y-init : goal.loop-y-init
loop-y-init c = any_none _

pub loop-y-preserved : goal.loop-y-preserved
loop-y-preserved c =
    let front = length-take-le c.used-end.result c.args.column.now (omega (arith, c.used-end.ensures)) in
    let h : c.loop-y.y-index < c.used-end.result = omega (arith, c.loop-y-test.true, front) in
    rw (at_front _ _ _ h, c.loop-y.invariant) (any_more (is_at c.args.column.now c.args.x) c.loop-y.y-index)

pub returns : goal.returns
unfolding contains
returns c =
    let front = length-take-le c.used-end.result c.args.column.now (omega (arith, c.used-end.ensures)) in
    let e : c.loop-y.y-index ≡ used c.args.column.now c.args.count = omega (arith, c.loop-y-test.false, c.loop-y.auto.y-index-end, front, c.used-end.ensures) in
    rw e at c.loop-y.invariant
