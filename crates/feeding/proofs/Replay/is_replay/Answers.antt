use mathlib.Core.Path.{sym, ◌∙◌}
use Rattle.feeding.specs.Feeding.{stands}
use Rattle.feeding.proofs.Replay.is_replay.Goals as goal

pub returns-then-is_journal : goal.returns-then-is_journal
unfolding stands
returns-then-is_journal c = rw (sym c.is_journal.ensures ∙ c.if-is_journal.true, c.is_rest.ensures)

pub returns-else-is_journal : goal.returns-else-is_journal
unfolding stands
returns-else-is_journal c = rw (c.if-is_journal.false, sym c.is_journal.ensures ∙ c.if-is_journal.false)
