use mathlib.Core.Path.{sym, ◌∙◌}
use native.Mathlib.Nat.{le_antisymm}
use native.Mathlib.Omega.{arith}
use Rattle.loops.proofs.Alls.{all_none, all_more, all_false}
use Rattle.vote_bits.specs.Told.{lies, told}
use Rattle.vote_bits.proofs.Joins.{told_turn, held_none}
use borrow.Author.Rules.{rules}
use Rattle.vote_bits.proofs.told.Goals as goal

pub join_votes-requires : goal.join_votes-requires
join_votes-requires c = (c.requires, held_none)

pub loop-x-init : goal.loop-x-init
loop-x-init c = (search rules, all_none _)

pub offset_bounds-joined-x : goal.offset_bounds-joined-x
offset_bounds-joined-x c = omega (arith, c.loop-x-test.true)

pub returns-then-not-is_told : goal.returns-then-not-is_told
unfolding told
returns-then-not-is_told c = sym (all_false _ _ _ c.loop-x-test.true (told_turn c.args.used.now c.args.rows.now _ (lies c.args.parents.now c.args.counts.now c.args.first_block.now) _ c.loop-x-test.true c.join_votes.ensures ∙ sym c.is_told.ensures ∙ c.if-not-is_told.true))

pub loop-x-preserved : goal.loop-x-preserved
loop-x-preserved c = (omega (arith, c.loop-x-test.true), all_more _ _ c.loop-x.invariant.1 (told_turn c.args.used.now c.args.rows.now _ (lies c.args.parents.now c.args.counts.now c.args.first_block.now) _ c.loop-x-test.true c.join_votes.ensures ∙ sym c.is_told.ensures ∙ c.if-not-is_told.false))

pub returns : goal.returns
unfolding told
returns c = let e = le_antisymm c.loop-x.invariant.0 c.loop-x-test.false in sym (rw e at c.loop-x.invariant.1)
