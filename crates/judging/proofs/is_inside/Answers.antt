use mathlib.Core.Path.{sym, ap, ◌∙◌}
use Prim.Native.Nat.{◌<◌, ◌≤◌}
use native.Mathlib.Omega.{arith}
use Rattle.loops.proofs.Tests.{T_true, true_T}
use Rattle.grandpa.specs.Tree.{below}
use Rattle.nodes.specs.Nodes.{col}
use Rattle.climbs.proofs.Climbs.{reach_next, reach_end}
use Rattle.judging.proofs.is_inside.Goals as goal

pub loop-at-init : goal.loop-at-init
loop-at-init c =
    (c.wide-wanted.ensures.0, c.wide-at.ensures.1, ap (below (col c.args.parents.now) c.args.base) (sym c.wide-at.ensures.0))

pub bounds-used-at : goal.bounds-used-at
bounds-used-at c = c.loop-at.invariant.1

pub returns-then-used-at : goal.returns-then-used-at
returns-then-used-at c = sym (c.loop-at.invariant.2 ∙ true_T _ (c.requires.1 c.loop-at.at (T_true c.if-used-at.true)))

pub bounds-parents-at : goal.bounds-parents-at
bounds-parents-at c = c.loop-at.invariant.1

pub loop-at-smaller : goal.loop-at-smaller
loop-at-smaller c = omega (arith, c.wide-at-in-loop-at.ensures.0, c.requires.0 c.loop-at.at, c.loop-at-test.true)

pub loop-at-preserved : goal.loop-at-preserved
loop-at-preserved c =
    let b = c.args.base in
    let at = c.loop-at.at in
    let past : b < at = omega (arith, c.loop-at.invariant.0, c.loop-at-test.true) in
    (c.loop-at.invariant.0, c.wide-at-in-loop-at.ensures.1, c.loop-at.invariant.2 ∙ reach_next (col c.args.parents.now) c.requires.0 b at past ∙ ap (below (col c.args.parents.now) b) (sym c.wide-at-in-loop-at.ensures.0))

pub returns : goal.returns
returns c =
    let b = c.args.base in
    let at = c.loop-at.at in
    let here : at ≤ b = omega (arith, c.loop-at.invariant.0, c.loop-at-test.false) in
    rw c.loop-at.invariant.0 (reach_end (col c.args.parents.now) c.requires.0 b at here ∙ sym c.loop-at.invariant.2)
