use mathlib.Core.Path.{sym}
use borrow.Author.Tests.{eq-eqb, ne_eqb}
use Rattle.answer_shape.specs.Stored.{weighed}
use Rattle.answer_shape.proofs.is_weighed.Goals as goal

pub returns-then-heard-weight : goal.returns-then-heard-weight
unfolding weighed
returns-then-heard-weight c = rw (sym c.weight.ensures, ne_eqb _ _ c.if-heard-weight.true)

pub returns : goal.returns
unfolding weighed
returns c = rw (sym c.weight.ensures, eq-eqb _ _ c.if-heard-weight.false, sym c.weight-2.ensures)
