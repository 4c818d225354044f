use mathlib.Core.Path.{ap, ◌∙◌}
use mathlib.Core.Bool.{not}
use Rattle.lists.proofs.Marks.{none_left_is}
use Rattle.lists.proofs.none_left.Goals as goal

pub returns : goal.returns
returns c = ap not c.contains.ensures.value ∙ none_left_is c.args.marks.now
