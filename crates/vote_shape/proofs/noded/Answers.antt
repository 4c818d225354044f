use mathlib.Core.Path.{sym, ◌∙◌}
use Rattle.vote_shape.specs.Voted.{noded}
use Rattle.vote_shape.proofs.noded.Goals as goal

pub bounds-used-at : goal.bounds-used-at
bounds-used-at c = c.wide-at.ensures.1

pub returns-then-not-used-at : goal.returns-then-not-used-at
unfolding noded
returns-then-not-used-at c = rw (← c.wide-at.ensures.0, c.if-not-used-at.true)

pub returns-then-not-targets_used : goal.returns-then-not-targets_used
unfolding noded
returns-then-not-targets_used c = rw (← c.wide-at.ensures.0, c.if-not-used-at.false, sym c.targets_used.ensures ∙ c.if-not-targets_used.true)

pub returns : goal.returns
unfolding noded
returns c = rw (← c.noted-noted.ensures, ← c.wide-at.ensures.0, c.if-not-used-at.false, sym c.targets_used.ensures ∙ c.if-not-targets_used.false) c.only_marked.ensures
