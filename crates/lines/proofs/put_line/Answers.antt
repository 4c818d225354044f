use Rattle.lines.specs.Lines.{line}
use Rattle.lines.proofs.Puts.{◌then◌}
use native.Mathlib.Omega.{arith}
use Rattle.lines.proofs.put_line.Goals as goal

pub returns : goal.returns
unfolding line
returns c = (c.put_named-a.ensures.0 then c.put.ensures, omega (arith, c.put.ensures.next_is))
