use Rattle.lines.proofs.Puts.{◌then◌}
use native.Mathlib.Omega.{arith}
use Rattle.lines.proofs.put_told.Goals as goal

pub returns-in-Some : goal.returns-in-Some
returns-in-Some c = rw c.in-Some.is (c.put_named-a.ensures.0 then c.put_named-b.ensures.0 then c.put.ensures, omega (arith, c.put.ensures.next_is))

pub returns-in-None : goal.returns-in-None
returns-in-None c = rw c.in-None.is (c.put-in-None.ensures, omega (arith, c.put-in-None.ensures.next_is))
