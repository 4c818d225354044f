use mathlib.Core.Path.{sym, ◌∙◌}
use native.Mathlib.Nat.{le_antisymm}
use native.Mathlib.Omega.{arith}
use Rattle.loops.proofs.Alls.{all_none, all_more, all_false}
use Rattle.vote_shape.specs.Voted.{tidy}
use Rattle.vote_shape.proofs.Tidies.{count_fails, first_fails, second_fails, three_pass}
use borrow.Author.Rules.{rules}
use Rattle.vote_shape.proofs.tidy.Goals as goal

pub loop-j-init : goal.loop-j-init
loop-j-init c = (search rules, all_none _)

pub is_counted-requires : goal.is_counted-requires
is_counted-requires c = omega (arith, c.loop-j-test.true)

pub returns-then-not-is_counted : goal.returns-then-not-is_counted
unfolding tidy
returns-then-not-is_counted c = sym (all_false _ _ _ c.loop-j-test.true (count_fails _ _ _ (sym c.is_counted.ensures ∙ c.if-not-is_counted.true)))

pub returns-then-not-is_first_clear : goal.returns-then-not-is_first_clear
unfolding tidy
returns-then-not-is_first_clear c = sym (all_false _ _ _ c.loop-j-test.true (first_fails _ _ _ (sym c.is_counted.ensures ∙ c.if-not-is_counted.false) (sym c.is_first_clear.ensures ∙ c.if-not-is_first_clear.true)))

pub returns-then-not-is_second_clear : goal.returns-then-not-is_second_clear
unfolding tidy
returns-then-not-is_second_clear c = sym (all_false _ _ _ c.loop-j-test.true (second_fails _ _ _ (sym c.is_counted.ensures ∙ c.if-not-is_counted.false) (sym c.is_first_clear.ensures ∙ c.if-not-is_first_clear.false) (sym c.is_second_clear.ensures ∙ c.if-not-is_second_clear.true)))

pub loop-j-preserved : goal.loop-j-preserved
loop-j-preserved c = (omega (arith, c.loop-j-test.true), all_more _ _ c.loop-j.invariant.1 (three_pass _ _ _ (sym c.is_counted.ensures ∙ c.if-not-is_counted.false) (sym c.is_first_clear.ensures ∙ c.if-not-is_first_clear.false) (sym c.is_second_clear.ensures ∙ c.if-not-is_second_clear.false)))

pub returns : goal.returns
unfolding tidy
returns c = let e = le_antisymm c.loop-j.invariant.0 c.loop-j-test.false in sym (rw e at c.loop-j.invariant.1)
