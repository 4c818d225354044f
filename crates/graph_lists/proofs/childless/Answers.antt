use mathlib.Core.Path.{◌≡◌, ap, ◌∙◌}
use Prim.Native.Nat.{◌<◌}
use native.Mathlib.Omega.{arith}
use Rattle.std.proofs.lemmas.List.{length-take-le, get_or-take}
use Rattle.nodes.specs.Nodes.{col}
use Rattle.lists.proofs.Strikes.{struck_none, struck_more}
use Rattle.graph_lists.proofs.childless.Goals as goal

pub loop-node-init : goal.loop-node-init
loop-node-init c = struck_none _ _ _

pub bounds-above-wide : goal.bounds-above-wide
bounds-above-wide c = c.wide.ensures.1

pub bounds-left-over : goal.bounds-left-over
bounds-left-over c = omega (arith, c.wide-over.ensures.1)

pub loop-node-preserved : goal.loop-node-preserved
loop-node-preserved c =
    let front = length-take-le c.args.listed c.args.order.now (omega (arith, c.requires)) in
    let h : c.loop-node.node-index < c.args.listed = omega (arith, c.loop-node-test.true, front) in
    struck_more _ _ _ _ _ _ c.loop-node.invariant (c.wide-over.ensures.0 ∙ ap (col c.args.above.now) (c.wide.ensures.0 ∙ get_or-take _ _ _ 0 h))

pub returns : goal.returns
returns c =
    let front = length-take-le c.args.listed c.args.order.now (omega (arith, c.requires)) in
    let e : c.loop-node.node-index ≡ c.args.listed = omega (arith, c.loop-node-test.false, c.loop-node.auto.node-index-end, front) in
    rw e at c.loop-node.invariant
