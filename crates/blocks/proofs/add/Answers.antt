use mathlib.Core.Path.{sym, ◌∙◌}
use Rattle.blocks.specs.Add.{append, step}
use Rattle.blocks.proofs.add.Goals as goal

pub returns-then-contains : goal.returns-then-contains
unfolding step
returns-then-contains c = rw (sym c.contains.ensures ∙ c.if-contains.true)

pub returns-in_default : goal.returns-in_default
unfolding step
returns-in_default c = rw (sym c.contains.ensures ∙ c.if-contains.false, sym c.find.ensures ∙ c.in_default.is)

pub returns : goal.returns
unfolding step
returns c = rw (sym c.contains.ensures ∙ c.if-contains.false, sym c.find.ensures ∙ c.in-Some.is) c.append.ensures
