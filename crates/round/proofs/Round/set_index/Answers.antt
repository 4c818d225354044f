use mathlib.Core.Path.{sym, ◌∙◌}
use Rattle.round.specs.Calls.{set_index}
use Rattle.round.proofs.Round.set_index.Goals as goal

pub returns-then-not-is_round : goal.returns-then-not-is_round
unfolding set_index
returns-then-not-is_round c = rw (sym c.is_round.ensures ∙ c.if-not-is_round.true)

pub returns : goal.returns
unfolding set_index
returns c = rw (sym c.is_round.ensures ∙ c.if-not-is_round.false, c.marked-self.ensures)
