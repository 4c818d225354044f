use mathlib.Core.Path.{sym, ◌∙◌}
use native.Mathlib.Omega.{arith}
use Rattle.judging.specs.Judge.{judge}
use Rattle.judging.proofs.Voters.{position_inside}
use Rattle.judging.proofs.judge.Goals as goal

pub returns-in_default : goal.returns-in_default
unfolding judge
returns-in_default c = rw (sym c.look_up.ensures ∙ c.in_default.is)

pub index-at-requires : goal.index-at-requires
index-at-requires c = omega (arith, position_inside _ _ _ _ _ (sym c.look_up.ensures ∙ c.in-Some.is), c.requires.2)

pub recorded-recorded-requires : goal.recorded-recorded-requires
recorded-recorded-requires c = c.index-at.ensures.1

pub judge_first-requires : goal.judge_first-requires
judge_first-requires c = (c.requires.0, c.requires.1, c.requires.3)

pub returns-in-Single : goal.returns-in-Single
unfolding judge
returns-in-Single c = rw (sym c.look_up.ensures ∙ c.in-Some.is, sym c.index-at.ensures.0, sym c.recorded-recorded.ensures, sym c.add_vote.ensures ∙ c.in-Single.is) c.judge_first.ensures

pub returns-in-Duplicated : goal.returns-in-Duplicated
unfolding judge
returns-in-Duplicated c = rw (sym c.look_up.ensures ∙ c.in-Some.is, sym c.index-at.ensures.0, sym c.recorded-recorded.ensures, sym c.add_vote.ensures ∙ c.in-Duplicated.is)

pub returns-in-Equivocated : goal.returns-in-Equivocated
unfolding judge
returns-in-Equivocated c = rw (sym c.look_up.ensures ∙ c.in-Some.is, sym c.index-at.ensures.0, sym c.recorded-recorded.ensures, sym c.add_vote.ensures ∙ c.in-Equivocated.is)

pub returns-in-Ignored : goal.returns-in-Ignored
unfolding judge
returns-in-Ignored c = rw (sym c.look_up.ensures ∙ c.in-Some.is, sym c.index-at.ensures.0, sym c.recorded-recorded.ensures, sym c.add_vote.ensures ∙ c.in-Ignored.is)
