use mathlib.Core.Path.{sym, ◌∙◌}
use Rattle.loops.proofs.Tests.{T_true}
use Rattle.round.specs.Calls.{import_vote}
use Rattle.round.proofs.Round.import_vote.Goals as goal

pub returns-then-not-is_round : goal.returns-then-not-is_round
unfolding import_vote
returns-then-not-is_round c = rw (sym c.is_round.ensures ∙ c.if-not-is_round.true)

pub import-requires : goal.import-requires
import-requires c = (T_true (sym c.is_round.ensures ∙ c.if-not-is_round.false))

pub returns : goal.returns
unfolding import_vote
returns c = rw (sym c.is_round.ensures ∙ c.if-not-is_round.false) c.import.ensures
