use borrow.Author.Tests.{lt-ltb, le-ltb}
use Rattle.graph_sweeps.proofs.is_inside.Goals as goal

pub returns-then-count-k : goal.returns-then-count-k
returns-then-count-k c = rw (c.if-not-node.false, le-ltb _ _ c.if-count-k.true)

pub returns : goal.returns
returns c = rw (c.if-not-node.false, lt-ltb _ _ c.if-count-k.false)
