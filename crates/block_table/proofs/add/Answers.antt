use mathlib.Core.Path.{sym, ◌∙◌}
use Rattle.loops.proofs.Tests.{T_true}
use Rattle.block_table.specs.Add.{add}
use Rattle.block_shape.proofs.Shapes.{tabled_shaped}
use Rattle.block_table.proofs.add.Goals as goal

pub returns-then-not-is_table : goal.returns-then-not-is_table
unfolding add
returns-then-not-is_table c = rw (sym c.is_table.ensures ∙ c.if-not-is_table.true)

pub add-answer-requires : goal.add-answer-requires
add-answer-requires c = (tabled_shaped _ (T_true (sym c.is_table.ensures ∙ c.if-not-is_table.false))).few

pub counted-requires : goal.counted-requires
counted-requires c = (tabled_shaped _ (T_true (sym c.is_table.ensures ∙ c.if-not-is_table.false))).few

pub returns : goal.returns
unfolding add
returns c = rw (sym c.is_table.ensures ∙ c.if-not-is_table.false, c.counted.ensures) c.add-answer.ensures
