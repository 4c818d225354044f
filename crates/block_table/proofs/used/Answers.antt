use mathlib.Core.Path.{sym, ◌∙◌}
use Rattle.block_table.specs.Ask.{used}
use Rattle.block_table.proofs.used.Goals as goal

pub returns-then-not-is_table : goal.returns-then-not-is_table
unfolding used
returns-then-not-is_table c = rw (sym c.is_table.ensures ∙ c.if-not-is_table.true)

pub returns : goal.returns
unfolding used
returns c = rw (sym c.is_table.ensures ∙ c.if-not-is_table.false)
