use mathlib.Core.Path.{sym, ◌∙◌}
use Rattle.journal.specs.Journal.{stands}
use Rattle.journal.proofs.Journal.is_journal.Goals as goal

pub returns-in-Voters : goal.returns-in-Voters
unfolding stands
returns-in-Voters c = rw c.in-Voters.is

pub returns-then-is_good : goal.returns-then-is_good
unfolding stands
returns-then-is_good c = rw (c.in-Blocks.is, sym c.is_good.ensures ∙ c.if-is_good.true, c.is_table.ensures)

pub returns-else-is_good : goal.returns-else-is_good
unfolding stands
returns-else-is_good c = rw (c.in-Blocks.is, c.if-is_good.false, sym c.is_good.ensures ∙ c.if-is_good.false)

pub returns-then-is_round : goal.returns-then-is_round
unfolding stands
returns-then-is_round c = rw (c.in-Votes.is, sym c.is_round.ensures ∙ c.if-is_round.true, c.has_no_index.ensures)

pub returns-else-is_round : goal.returns-else-is_round
unfolding stands
returns-else-is_round c = rw (c.in-Votes.is, c.if-is_round.false, sym c.is_round.ensures ∙ c.if-is_round.false)
