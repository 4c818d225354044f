use mathlib.Core.Path.{sym, ◌∙◌}
use Rattle.answer_shape.specs.Stored.{all_stored}
use Rattle.answer_shape.proofs.are_stored.Goals as goal

pub returns-then-not-is_stored : goal.returns-then-not-is_stored
unfolding all_stored
returns-then-not-is_stored c = rw (sym c.is_stored.ensures ∙ c.if-not-is_stored.true)

pub returns-then-not-is_stored-2 : goal.returns-then-not-is_stored-2
unfolding all_stored
returns-then-not-is_stored-2 c = rw (sym c.is_stored.ensures ∙ c.if-not-is_stored.false, sym c.is_stored-2.ensures ∙ c.if-not-is_stored-2.true)

pub returns-then-not-is_stored-3 : goal.returns-then-not-is_stored-3
unfolding all_stored
returns-then-not-is_stored-3 c = rw (sym c.is_stored.ensures ∙ c.if-not-is_stored.false, sym c.is_stored-2.ensures ∙ c.if-not-is_stored-2.false, sym c.is_stored-3.ensures ∙ c.if-not-is_stored-3.true)

pub returns : goal.returns
unfolding all_stored
returns c = rw (sym c.is_stored.ensures ∙ c.if-not-is_stored.false, sym c.is_stored-2.ensures ∙ c.if-not-is_stored-2.false, sym c.is_stored-3.ensures ∙ c.if-not-is_stored-3.false) c.is_stored-4.ensures
