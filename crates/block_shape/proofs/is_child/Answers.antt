use native.Mathlib.Omega.{arith}
use borrow.Author.Tests.{le-ltb, lt-ltb}
use Rattle.blocks.specs.Table.{up}
use Rattle.block_shape.specs.Shape.{is_child}
use Rattle.block_shape.proofs.is_child.Goals as goal

pub returns-then-k-parent : goal.returns-then-k-parent
unfolding is_child
returns-then-k-parent c = rw (le-ltb (up c.args.parents.now c.args.k) c.args.k (omega (arith, c.from-parent.ensures, c.if-k-parent.true)))

pub returns : goal.returns
unfolding is_child
returns c = rw (c.from.ensures, c.from-2.ensures, c.from-parent.ensures, lt-ltb (up c.args.parents.now c.args.k) c.args.k (omega (arith, c.from-parent.ensures, c.if-k-parent.false)))
