use mathlib.Core.Path.{sym, ◌∙◌}
use Rattle.vote_search.proofs.or_this.Goals as goal

pub returns-then-holds : goal.returns-then-holds
returns-then-holds c = rw (c.in-None.is, sym c.holds.ensures ∙ c.if-holds.true)

pub returns-in-Some : goal.returns-in-Some
returns-in-Some c = rw c.in-Some.is

pub returns-else-holds : goal.returns-else-holds
returns-else-holds c = rw (c.in-None.is, sym c.holds.ensures ∙ c.if-holds.false)
