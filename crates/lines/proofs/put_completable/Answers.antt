use Rattle.lines.specs.Lines.{completable_line}
use native.Mathlib.Omega.{arith}
use Rattle.lines.proofs.put_completable.Goals as goal

pub returns-then-completable : goal.returns-then-completable
unfolding completable_line
returns-then-completable c = rw c.if-completable.true (c.put.ensures, omega (arith, c.put.ensures.next_is))

pub returns : goal.returns
unfolding completable_line
returns c = rw c.if-completable.false (c.put-2.ensures, omega (arith, c.put-2.ensures.next_is))
