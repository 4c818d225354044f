use mathlib.Core.Path.{sym, ◌∙◌}
use Rattle.vote_graph.specs.Target.{in_base}
use Rattle.vote_graph.proofs.named.in_base.Goals as goal

pub returns-then-not-reaches : goal.returns-then-not-reaches
unfolding in_base
returns-then-not-reaches c = rw (sym c.reaches.ensures ∙ c.if-not-reaches.true)

pub returns : goal.returns
unfolding in_base
returns c = rw (sym c.reaches.ensures ∙ c.if-not-reaches.false)
