use mathlib.Core.Path.{sym, ◌∙◌}
use Rattle.loops.proofs.Tests.{T_true}
use Rattle.round.specs.Calls.{add_block}
use Rattle.round.proofs.Steps.{few_blocks}
use Rattle.round.proofs.Round.add_block.Goals as goal

pub returns-then-not-is_round : goal.returns-then-not-is_round
unfolding add_block
returns-then-not-is_round c = rw (sym c.is_round.ensures ∙ c.if-not-is_round.true)

pub add-answer-requires : goal.add-answer-requires
add-answer-requires c = few_blocks _ (T_true (sym c.is_round.ensures ∙ c.if-not-is_round.false))

pub counted-self-requires : goal.counted-self-requires
counted-self-requires c = few_blocks _ (T_true (sym c.is_round.ensures ∙ c.if-not-is_round.false))

pub returns : goal.returns
unfolding add_block
returns c = rw (sym c.is_round.ensures ∙ c.if-not-is_round.false, c.counted-self.ensures, sym c.add-answer.ensures)
