use native.Mathlib.Nat.{le_antisymm}
use native.Mathlib.Omega.{arith}
use Rattle.vote_shape.proofs.Marks.{marked_is, marked_none, marked_next}
use borrow.Author.Rules.{rules}
use Rattle.vote_shape.proofs.pairs.Goals as goal

pub loop-e-init : goal.loop-e-init
loop-e-init c = (search rules, marked_none _ _)

pub overflow_cast-e : goal.overflow_cast-e
overflow_cast-e c = omega (arith, c.loop-e-test.true)

pub is_paired-requires : goal.is_paired-requires
is_paired-requires c = omega (arith, c.loop-e-test.true)

pub bounds-marks-e : goal.bounds-marks-e
bounds-marks-e c = omega (arith, c.loop-e-test.true, c.loop-e.invariant.1.sized)

pub loop-e-preserved : goal.loop-e-preserved
loop-e-preserved c = (omega (arith, c.loop-e-test.true), marked_next _ _ _ _ _ c.loop-e-test.true c.loop-e.invariant.1 c.is_paired.ensures)

pub returns : goal.returns
returns c = let e = le_antisymm c.loop-e.invariant.0 c.loop-e-test.false in marked_is _ _ _ (rw e at c.loop-e.invariant.1)
