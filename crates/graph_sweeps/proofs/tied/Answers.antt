use mathlib.Core.Bool.{true, false}
use mathlib.Core.Path.{sym, ◌∙◌}
use Prim.Native.Nat.{◌-◌}
use native.Mathlib.Nat.{le_antisymm}
use native.Mathlib.Omega.{arith}
use Rattle.loops.proofs.Alls.{all_none, all_more, all_false}
use Rattle.graph_sweeps.specs.Swept.{tied}
use Rattle.graph_sweeps.proofs.Sweeps.{near_none, near_over, near_more}
use borrow.Author.Rules.{rules}
use Rattle.graph_sweeps.proofs.tied.Goals as goal

pub loop-k-init : goal.loop-k-init
loop-k-init c = (search rules, all_none _, near_none _ c.requires _)

pub bounds-near-wide : goal.bounds-near-wide
bounds-near-wide c = omega (arith, c.wide.ensures.1, c.loop-k.invariant.2.sized)

pub returns-then-not-is_tied : goal.returns-then-not-is_tied
unfolding tied
returns-then-not-is_tied c =
    let over = near_over _ c.requires _ _ _ _ c.loop-k.invariant.2 c.wide.ensures.0 in
    sym (all_false _ _ _ c.loop-k-test.true (rw over at (sym c.is_tied.ensures ∙ c.if-not-is_tied.true)))

pub bounds-near-k : goal.bounds-near-k
bounds-near-k c = omega (arith, c.loop-k-test.true, c.loop-k.invariant.2.sized)

pub loop-k-preserved : goal.loop-k-preserved
loop-k-preserved c =
    let over = near_over _ c.requires _ _ _ _ c.loop-k.invariant.2 c.wide.ensures.0 in (
      omega (arith, c.loop-k-test.true),
      all_more _ _ c.loop-k.invariant.1 (rw over at (sym c.is_tied.ensures ∙ c.if-not-is_tied.false)),
      near_more _ c.requires _ _ _ _ _ c.loop-k-test.true c.loop-k.invariant.2 c.wide.ensures.0 c.node_or.ensures,
    )

pub returns : goal.returns
unfolding tied
returns c = let e = le_antisymm c.loop-k.invariant.0 c.loop-k-test.false in sym (rw e at c.loop-k.invariant.1)
