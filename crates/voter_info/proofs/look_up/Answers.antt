use mathlib.Core.Path.{sym, ◌∙◌}
use Rattle.voter_info.proofs.Infos.{look_up_at, look_up_short, look_up_nothing}
use Rattle.voter_info.proofs.look_up.Goals as goal

pub returns-in_default : goal.returns-in_default
returns-in_default c = sym (look_up_nothing _ c.args.weights.now _ _ (sym c.find.ensures ∙ c.in_default.is))

pub returns-then-weights-place : goal.returns-then-weights-place
returns-then-weights-place c = sym (look_up_short _ c.args.weights.now _ _ _ (sym c.find.ensures ∙ c.in-Some.is) c.if-weights-place.true)

pub returns : goal.returns
returns c = c.info.ensures ∙ sym (look_up_at _ c.args.weights.now _ _ _ (sym c.find.ensures ∙ c.in-Some.is))
