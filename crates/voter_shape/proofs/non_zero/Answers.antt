use mathlib.Core.Path.{◌≡◌}
use Prim.Native.Nat.{◌<◌}
use native.Mathlib.Omega.{arith}
use Rattle.std.proofs.lemmas.List.{length-take-le}
use Rattle.columns.proofs.Finds.{at_front}
use Rattle.voter_shape.proofs.Turns.{non_zero_none, non_zero_next}
use Rattle.voter_shape.proofs.non_zero.Goals as goal

pub loop-weight-init : goal.loop-weight-init
loop-weight-init c = non_zero_none _

pub loop-weight-preserved : goal.loop-weight-preserved
loop-weight-preserved c =
    let front = length-take-le c.args.count c.args.weights.now c.requires in
    let h : c.loop-weight.weight-index < c.args.count = omega (arith, c.loop-weight-test.true, front) in
    rw (at_front _ _ _ h, c.loop-weight.invariant) (non_zero_next c.args.weights.now c.loop-weight.weight-index)

pub returns : goal.returns
returns c =
    let front = length-take-le c.args.count c.args.weights.now c.requires in
    let e : c.loop-weight.weight-index ≡ c.args.count = omega (arith, c.loop-weight-test.false, c.loop-weight.auto.weight-index-end, front) in
    rw e at c.loop-weight.invariant
