use mathlib.Core.Path.{sym, ◌∙◌}
use Rattle.lists.specs.Laid.{laid}
use Rattle.lists.proofs.laid.Goals as goal

pub returns-then-once_each : goal.returns-then-once_each
unfolding laid
returns-then-once_each g c = rw (sym c.once_each.ensures ∙ c.if-once_each.true, ← c.told-places) c.blank.ensures

pub returns-else-once_each : goal.returns-else-once_each
unfolding laid
returns-else-once_each g c = rw (sym c.once_each.ensures ∙ c.if-once_each.false) c.if-once_each.false
