use mathlib.Core.Path.{sym, ◌∙◌}
use native.Mathlib.Omega.{arith}
use native.Mathlib.Nat.{le_antisymm}
use borrow.Author.Tests.{eq-eqb, ne_eqb}
use Rattle.loops.proofs.Alls.{all_more, all_false}
use Rattle.block_shape.specs.Shape.{seated, is_tree}
use Rattle.block_shape.proofs.Shapes.{seated_start, seated_child, seated_none}
use Rattle.block_shape.proofs.is_tree.Goals as goal

pub returns-then-parents-ne0 : goal.returns-then-parents-ne0
unfolding is_tree
returns-then-parents-ne0 c = rw (ne_eqb _ _ c.if-parents-ne0.true)

pub loop-k-init : goal.loop-k-init
loop-k-init c = (omega arith, omega arith, seated_start _ _)

pub returns-then-not-is_child : goal.returns-then-not-is_child
unfolding is_tree
returns-then-not-is_child c = rw (eq-eqb _ _ c.if-parents-ne0.false, all_false (seated _ _) _ _ c.loop-k-test.true (seated_none _ _ _ c.loop-k.invariant.0 (sym c.is_child.ensures ∙ c.if-not-is_child.true)))

pub loop-k-preserved : goal.loop-k-preserved
loop-k-preserved c = (omega arith, omega arith, all_more (seated _ _) _ c.loop-k.invariant.2 (seated_child _ _ _ (sym c.is_child.ensures ∙ c.if-not-is_child.false)))

pub returns : goal.returns
unfolding is_tree
returns c = let e = le_antisymm c.loop-k.invariant.1 c.loop-k-test.false in rw (eq-eqb _ _ c.if-parents-ne0.false, ← e, c.loop-k.invariant.2)
