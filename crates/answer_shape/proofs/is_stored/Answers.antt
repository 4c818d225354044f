use mathlib.Core.Path.{sym}
use borrow.Author.Tests.{le-ltb, lt-ltb}
use Rattle.answer_shape.proofs.is_stored.Goals as goal

pub returns-then-count-wide : goal.returns-then-count-wide
returns-then-count-wide c = rw (c.in-Some.is, sym c.wide.ensures.0, le-ltb _ _ c.if-count-wide.true)

pub returns-else-count-wide : goal.returns-else-count-wide
returns-else-count-wide c = rw (c.in-Some.is, sym c.reaches.ensures, sym c.wide.ensures.0, lt-ltb _ _ c.if-count-wide.false)
