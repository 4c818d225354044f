use native.Mathlib.Omega.{arith}
use Rattle.vote_bits.proofs.Joins.{cast_none, cast_skip, cast_put, small_none, small_skip, small_next, lift_start, lift_next, lift_end}
use borrow.Author.Rules.{rules}
use Rattle.vote_bits.proofs.join_votes.Goals as goal

pub loop-j-init : goal.loop-j-init
loop-j-init c = (search rules, small_none c.args.counts.now c.args.first_block.now, cast_none c.args.counts.now c.args.first_block.now _ c.requires.1)

pub loop-j-preserved-then-n-eq0 : goal.loop-j-preserved-then-n-eq0
loop-j-preserved-then-n-eq0 c = (omega (arith, c.loop-j-test.true), small_skip c.args.counts.now c.args.first_block.now _ c.if-n-eq0.true c.loop-j.invariant.1, cast_skip c.args.counts.now c.args.first_block.now _ _ c.if-n-eq0.true c.loop-j.invariant.2)

pub offset_bounds-rows-at : goal.offset_bounds-rows-at
offset_bounds-rows-at c = omega (arith, c.wide-at.ensures.1)

pub bounds-rows-at : goal.bounds-rows-at
bounds-rows-at c = c.wide-at.ensures.1

pub offset_bounds-rows-at-in-loop-j : goal.offset_bounds-rows-at-in-loop-j
offset_bounds-rows-at-in-loop-j c = omega (arith, c.wide-at.ensures.1)

pub bounds-rows-at-in-loop-j : goal.bounds-rows-at-in-loop-j
bounds-rows-at-in-loop-j c = c.wide-at.ensures.1

pub loop-j-preserved : goal.loop-j-preserved
loop-j-preserved c = (omega (arith, c.loop-j-test.true), small_next c.args.counts.now c.args.first_block.now _ _ c.wide-at.ensures.0 c.wide-at.ensures.1 c.loop-j.invariant.1, cast_put c.args.counts.now c.args.first_block.now _ _ _ _ c.loop-j-test.true c.if-n-eq0.false c.wide-at.ensures.0 c.wide-at.ensures.1 c.set_bit-more.ensures c.loop-j.invariant.2)

pub loop-low-init : goal.loop-low-init
loop-low-init c = (omega arith, search rules, λ falls. lift_start c.args.parents.now c.args.counts.now c.args.first_block.now falls _ _ c.loop-j-test.false c.loop-j.invariant.1 c.loop-j.invariant.2)

pub bounds-parents-low : goal.bounds-parents-low
bounds-parents-low c = omega (arith, c.loop-low.invariant.0, c.loop-low.invariant.1)

pub offset_bounds-rows-low : goal.offset_bounds-rows-low
offset_bounds-rows-low c = omega (arith, c.loop-low.invariant.0, c.loop-low.invariant.1)

pub bounds-rows-low : goal.bounds-rows-low
bounds-rows-low c = omega (arith, c.loop-low.invariant.0, c.loop-low.invariant.1)

pub offset_bounds-rows-over : goal.offset_bounds-rows-over
offset_bounds-rows-over c = omega (arith, c.wide-over.ensures.1)

pub bounds-rows-over : goal.bounds-rows-over
bounds-rows-over c = c.wide-over.ensures.1

pub offset_bounds-rows-over-in-loop-low : goal.offset_bounds-rows-over-in-loop-low
offset_bounds-rows-over-in-loop-low c = omega (arith, c.wide-over.ensures.1)

pub bounds-rows-over-in-loop-low : goal.bounds-rows-over-in-loop-low
bounds-rows-over-in-loop-low c = c.wide-over.ensures.1

pub loop-low-preserved : goal.loop-low-preserved
loop-low-preserved c = (omega (arith, c.loop-low-test.true), omega (arith, c.loop-low.invariant.1), λ falls. lift_next c.args.parents.now c.args.counts.now c.args.first_block.now falls _ _ _ _ (omega (arith, c.loop-low-test.true)) (omega (arith, c.loop-low.invariant.0, c.loop-low.invariant.1)) c.wide-over.ensures.0 c.wide-over.ensures.1 c.merge-more.ensures (c.loop-low.invariant.2 falls))

pub returns : goal.returns
returns c = lift_end c.args.parents.now c.args.counts.now c.args.first_block.now c.requires.0 _ _ (omega (arith, c.loop-low-test.false)) (c.loop-low.invariant.2 c.requires.0)
