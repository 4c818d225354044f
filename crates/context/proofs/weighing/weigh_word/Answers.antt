use mathlib.Core.Path.{◌≡◌, refl}
use native.Mathlib.Omega.{arith}
use lib.Bits.{and_le_l}
use Rattle.bitfield.proofs.Walks.{Low, low}
use Rattle.context.proofs.Sums.{word_turn, word_end}
use borrow.Author.Rules.{rules}
use Rattle.context.proofs.weighing.weigh_word.Goals as goal

pub loop-left-init : goal.loop-left-init
loop-left-init c = (search rules, search rules, refl)

pub overflow_sub-zeros : goal.overflow_sub-zeros
overflow_sub-zeros c = and_le_l _ _

pub overflow_cast-zeros : goal.overflow_cast-zeros
overflow_cast-zeros c = omega (arith, (low c.loop-left.left (omega arith) c.loop-left.invariant.0).under)

pub overflow_add-place : goal.overflow_add-place
overflow_add-place c = omega (arith, (low c.loop-left.left (omega arith) c.loop-left.invariant.0).under)

pub offset_bounds-weights-place : goal.offset_bounds-weights-place
offset_bounds-weights-place c = omega (arith, (low c.loop-left.left (omega arith) c.loop-left.invariant.0).under)

pub bounds-weights-place : goal.bounds-weights-place
bounds-weights-place c = omega (arith, (low c.loop-left.left (omega arith) c.loop-left.invariant.0).under)

pub loop-left-smaller : goal.loop-left-smaller
loop-left-smaller c = (low c.loop-left.left (omega arith) c.loop-left.invariant.0).less

pub loop-left-preserved : goal.loop-left-preserved
loop-left-preserved c =
    let l = low c.loop-left.left (omega arith) c.loop-left.invariant.0 in
    (omega (arith, l.less), omega (arith, c.saturating_add-sum.ensures), rw c.saturating_add-sum.ensures (word_turn _ _ _ _ (omega arith) c.loop-left.invariant.0 c.loop-left.invariant.2))

pub returns : goal.returns
returns c =
    let z : c.loop-left.left ≡ 0 = search rules in
    word_end _ _ _ c.loop-left.invariant.1 (rw z at c.loop-left.invariant.2)
