use mathlib.Core.Path.{sym, ◌∙◌}
use borrow.Author.Tests.{eq-eqb, ne_eqb}
use Rattle.judging.specs.Judge.{judge_first}
use Rattle.judging.proofs.judge_first.Goals as goal

pub find-requires : goal.find-requires
find-requires c = c.requires.1

pub returns-in_default : goal.returns-in_default
unfolding judge_first
returns-in_default c = rw (sym c.find.ensures ∙ c.in_default.is)

pub returns-then-numbers-wide : goal.returns-then-numbers-wide
unfolding judge_first
returns-then-numbers-wide c = rw (sym c.find.ensures ∙ c.in-Some.is, sym c.wide.ensures.0, ne_eqb _ _ c.if-numbers-wide.true)

pub is_inside-requires : goal.is_inside-requires
is_inside-requires c = (c.requires.0, c.requires.2)

pub returns-then-not-is_inside : goal.returns-then-not-is_inside
unfolding judge_first
returns-then-not-is_inside c = rw (sym c.find.ensures ∙ c.in-Some.is, sym c.is_inside.ensures ∙ c.if-not-is_inside.true, sym c.wide.ensures.0, eq-eqb _ _ c.if-numbers-wide.false)

pub returns : goal.returns
unfolding judge_first
returns c = rw (sym c.find.ensures ∙ c.in-Some.is, sym c.is_inside.ensures ∙ c.if-not-is_inside.false, sym c.wide.ensures.0, eq-eqb _ _ c.if-numbers-wide.false)
