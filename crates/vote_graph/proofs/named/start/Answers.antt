use borrow.Author.Tests.{le-ltb, lt-ltb}
use Rattle.vote_graph.specs.Target.{start}
use Rattle.vote_graph.proofs.named.start.Goals as goal

pub returns-in_default : goal.returns-in_default
unfolding start
returns-in_default c = rw c.in_default.is

pub returns-then-count-wide : goal.returns-then-count-wide
unfolding start
returns-then-count-wide c = rw (c.in-Some.is, ← c.wide.ensures.0, le-ltb _ _ c.if-count-wide.true)

pub returns : goal.returns
unfolding start
returns c = rw (c.in-Some.is, c.in_base.ensures, ← c.wide.ensures.0, lt-ltb _ _ c.if-count-wide.false)
