use mathlib.Core.Path.{ap}
use borrow.Author.Tests.{lt-ltb, le-ltb, le-leb, lt-leb}
use Rattle.nodes.specs.Nodes.{flag}
use Rattle.graph_shape.specs.Graphed.{counted}
use Rattle.graph_shape.proofs.counted.Goals as goal

pub returns-then-count-gt-BLOCKS : goal.returns-then-count-gt-BLOCKS
unfolding counted
returns-then-count-gt-BLOCKS c = rw (lt-leb _ _ c.if-count-gt-BLOCKS.true)

pub returns-then-listed-gt-BLOCKS : goal.returns-then-listed-gt-BLOCKS
unfolding counted
returns-then-listed-gt-BLOCKS c = rw (le-leb _ _ c.if-count-gt-BLOCKS.false, lt-leb _ _ c.if-listed-gt-BLOCKS.true)

pub returns-then-tips-gt-BLOCKS : goal.returns-then-tips-gt-BLOCKS
unfolding counted
returns-then-tips-gt-BLOCKS c = rw (le-leb _ _ c.if-count-gt-BLOCKS.false, le-leb _ _ c.if-listed-gt-BLOCKS.false, lt-leb _ _ c.if-tips-gt-BLOCKS.true)

pub returns-then-count-at : goal.returns-then-count-at
unfolding counted
returns-then-count-at c =
    rw (le-leb _ _ c.if-count-gt-BLOCKS.false, le-leb _ _ c.if-listed-gt-BLOCKS.false, le-leb _ _ c.if-tips-gt-BLOCKS.false, le-ltb _ _ (rw c.wide-at.ensures.0 at c.if-count-at.true))

pub returns : goal.returns
unfolding counted
returns c =
    rw (le-leb _ _ c.if-count-gt-BLOCKS.false, le-leb _ _ c.if-listed-gt-BLOCKS.false, le-leb _ _ c.if-tips-gt-BLOCKS.false, lt-ltb _ _ (rw c.wide-at.ensures.0 at c.if-count-at.false))
    (ap (flag c.args.used.now) c.wide-at.ensures.0)
