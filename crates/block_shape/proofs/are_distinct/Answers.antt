use mathlib.Core.Path.{sym, ap, ◌∙◌}
use mathlib.Core.Bool.{not}
use native.Mathlib.Omega.{arith}
use native.Mathlib.Nat.{le_antisymm}
use Rattle.loops.proofs.Alls.{all_none, all_more, all_false}
use Rattle.block_shape.specs.Shape.{is_new, are_distinct}
use Rattle.block_shape.proofs.are_distinct.Goals as goal

pub loop-k-init : goal.loop-k-init
loop-k-init c = (omega arith, all_none _)

pub returns-then-contains : goal.returns-then-contains
unfolding are_distinct
returns-then-contains c = sym (all_false (is_new _) _ _ c.loop-k-test.true (ap not (sym c.contains.ensures ∙ c.if-contains.true)))

pub loop-k-preserved : goal.loop-k-preserved
loop-k-preserved c = (omega arith, all_more (is_new _) _ c.loop-k.invariant.1 (ap not (sym c.contains.ensures ∙ c.if-contains.false)))

pub returns : goal.returns
unfolding are_distinct
returns c = let e = le_antisymm c.loop-k.invariant.0 c.loop-k-test.false in sym (rw e at c.loop-k.invariant.1)
