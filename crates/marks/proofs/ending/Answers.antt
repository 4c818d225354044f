use mathlib.Core.Path.{sym, ap, ◌∙◌}
use Rattle.marks.specs.Marks.{ends, ending}
use Rattle.marks.proofs.ending.Goals as goal

pub returns-in-Unknown : goal.returns-in-Unknown
unfolding ending
returns-in-Unknown c = sym (ap ends (sym c.read.ensures ∙ c.in-Unknown.is))

pub returns-in-Cut : goal.returns-in-Cut
unfolding ending
returns-in-Cut c = sym (ap ends (sym c.read.ensures ∙ c.in-Cut.is))

pub returns-in-Whole : goal.returns-in-Whole
unfolding ending
returns-in-Whole c = sym (ap ends (sym c.read.ensures ∙ c.in-Whole.is))
