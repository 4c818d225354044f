use mathlib.Core.Path.{sym, ◌∙◌}
use Rattle.round.specs.Ask.{tested}
use Rattle.round.proofs.Round.tested.Goals as goal

pub returns-then-not-is_round : goal.returns-then-not-is_round
unfolding tested
returns-then-not-is_round c = rw (sym c.is_round.ensures ∙ c.if-not-is_round.true)

pub returns : goal.returns
unfolding tested
returns c = rw (sym c.is_round.ensures ∙ c.if-not-is_round.false)
