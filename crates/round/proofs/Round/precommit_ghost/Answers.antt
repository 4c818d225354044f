use mathlib.Core.Path.{sym, ◌∙◌}
use Rattle.loops.proofs.Tests.{T_true}
use Rattle.round.specs.Calls.{precommit_ghost}
use Rattle.round.proofs.Round.precommit_ghost.Goals as goal

pub returns-then-not-is_round : goal.returns-then-not-is_round
unfolding precommit_ghost
returns-then-not-is_round c = rw (sym c.is_round.ensures ∙ c.if-not-is_round.true)

pub sought-found-requires : goal.sought-found-requires
sought-found-requires c = (T_true (sym c.is_round.ensures ∙ c.if-not-is_round.false))

pub returns : goal.returns
unfolding precommit_ghost
returns c = rw (sym c.is_round.ensures ∙ c.if-not-is_round.false, sym c.sought-found.ensures, c.block_of.ensures)
