use mathlib.Core.Path.{sym, ◌∙◌}
use Rattle.vote_graph.specs.Target.{target}
use Rattle.vote_graph.proofs.named.of.Goals as goal

pub returns-in_default : goal.returns-in_default
unfolding target
returns-in_default c = rw (sym c.find.ensures ∙ c.in_default.is)

pub returns : goal.returns
unfolding target
returns c = rw (sym c.find.ensures ∙ c.in-Some.is, c.in_base.ensures)
