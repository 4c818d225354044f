use Rattle.lines.specs.Lines.{heard_line}
use Rattle.lines.proofs.Puts.{◌then◌}
use native.Mathlib.Omega.{arith}
use Rattle.lines.proofs.put_heard.Goals as goal

pub returns : goal.returns
unfolding heard_line
returns c = (c.put_named-a.ensures.0 then c.put_named-b.ensures.0 then c.put_named-c.ensures.0 then c.put_named-d.ensures.0 then c.put.ensures, omega (arith, c.put.ensures.next_is))
