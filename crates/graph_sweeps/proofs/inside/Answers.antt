use mathlib.Core.Bool.{true, false}
use mathlib.Core.Path.{sym, ◌∙◌}
use Prim.Native.Nat.{◌-◌}
use native.Mathlib.Nat.{le_antisymm}
use native.Mathlib.Omega.{arith}
use Rattle.loops.proofs.Alls.{all_none, all_more, all_false}
use Rattle.graph_sweeps.specs.Swept.{inside}
use Rattle.graph_sweeps.proofs.Sweeps.{under_none, under_here, under_more}
use borrow.Author.Rules.{rules}
use Rattle.graph_sweeps.proofs.inside.Goals as goal

pub loop-k-init : goal.loop-k-init
loop-k-init c = (search rules, all_none _, under_none _ c.requires _)

pub bounds-under-wide : goal.bounds-under-wide
bounds-under-wide c = omega (arith, c.wide.ensures.1, c.loop-k.invariant.2.sized)

pub returns-then-not-is_inside : goal.returns-then-not-is_inside
unfolding inside
returns-then-not-is_inside c =
    let low = c.is_under-low.ensures ∙ under_here _ c.requires _ _ _ _ _ c.loop-k.invariant.2 c.wide-top.ensures.0 c.wide.ensures.0 in
    sym (all_false _ _ _ c.loop-k-test.true (rw low at (sym c.is_inside.ensures ∙ c.if-not-is_inside.true)))

pub bounds-under-k : goal.bounds-under-k
bounds-under-k c = omega (arith, c.loop-k-test.true, c.loop-k.invariant.2.sized)

pub loop-k-preserved : goal.loop-k-preserved
loop-k-preserved c =
    let low = c.is_under-low.ensures ∙ under_here _ c.requires _ _ _ _ _ c.loop-k.invariant.2 c.wide-top.ensures.0 c.wide.ensures.0 in (
      omega (arith, c.loop-k-test.true),
      all_more _ _ c.loop-k.invariant.1 (rw low at (sym c.is_inside.ensures ∙ c.if-not-is_inside.false)),
      under_more _ c.requires _ _ _ _ c.loop-k-test.true c.loop-k.invariant.2 low,
    )

pub returns : goal.returns
unfolding inside
returns c = let e = le_antisymm c.loop-k.invariant.0 c.loop-k-test.false in sym (rw e at c.loop-k.invariant.1)
