use mathlib.Core.Path.{sym, ◌∙◌}
use Rattle.round.specs.Calls.{new}
use Rattle.loops.proofs.Tests.{T_true}
use Rattle.block_shape.proofs.Shapes.{tabled_shaped}
use Rattle.round.proofs.Round.new.Goals as goal

pub returns-then-not-is_good : goal.returns-then-not-is_good
unfolding new
returns-then-not-is_good c = rw (c.opened.ensures, c.no_blocks.ensures, c.nobody.ensures, sym c.is_good.ensures ∙ c.if-not-is_good.true)

pub returns-then-not-is_table : goal.returns-then-not-is_table
unfolding new
returns-then-not-is_table c = rw (c.opened-then-not-is_table.ensures, c.no_blocks-then-not-is_table.ensures, c.nobody-then-not-is_table.ensures, sym c.is_good.ensures ∙ c.if-not-is_good.false, sym c.is_table.ensures ∙ c.if-not-is_table.true)

pub find-requires : goal.find-requires
find-requires c = (tabled_shaped _ (T_true (sym c.is_table.ensures ∙ c.if-not-is_table.false))).few

pub returns-in_default : goal.returns-in_default
unfolding new
returns-in_default c = rw (c.opened-in_default.ensures, c.no_blocks-in_default.ensures, c.nobody-in_default.ensures, sym c.is_good.ensures ∙ c.if-not-is_good.false, sym c.is_table.ensures ∙ c.if-not-is_table.false, sym c.find.ensures ∙ c.in_default.is)

pub returns : goal.returns
unfolding new
returns c = rw (c.opened-2.ensures, sym c.is_good.ensures ∙ c.if-not-is_good.false, sym c.is_table.ensures ∙ c.if-not-is_table.false, sym c.find.ensures ∙ c.in-Some.is)
