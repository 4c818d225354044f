use mathlib.Core.Path.{◌≡◌, sym, ◌∙◌}
use Prim.Native.Nat.{◌+◌, ◌-◌, ◌<◌}
use native.Mathlib.Omega.{arith}
use lib.ListN.{length}
use Rattle.lists.proofs.Rests.{length_rest, in_rest, rest_none, rest_next}
use Rattle.lists.proofs.blank.Goals as goal

pub loop-x-init : goal.loop-x-init
loop-x-init g c = rest_none _ _

pub loop-x-preserved : goal.loop-x-preserved
loop-x-preserved g c =
    let xs = c.args.column.now in
    let h : c.loop-x.x-index < length xs - c.args.count = omega (arith, c.loop-x-test.true, c.loop-x.auto.x-index-end, length_rest xs c.args.count) in
    let e = g.met.T.Number.reads xs (c.args.count + c.loop-x.x-index) c.x-item.result (omega arith) (in_rest xs c.args.count _ _ h c.x-item.is) in
    rest_next _ _ _ _ _ c.loop-x.invariant (e ∙ sym c.wide.ensures)

pub returns : goal.returns
returns g c =
    let xs = c.args.column.now in
    let e : c.args.count + c.loop-x.x-index ≡ length xs = omega (arith, c.requires, c.loop-x-test.false, c.loop-x.auto.x-index-end, length_rest xs c.args.count) in
    rw e at c.loop-x.invariant
