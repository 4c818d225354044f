use Rattle.lines.specs.Lines.{named}
use Rattle.lines.proofs.Puts.{◌then◌}
use native.Mathlib.Omega.{arith}
use Rattle.lines.proofs.put_named.Goals as goal

pub returns : goal.returns
unfolding named
returns c = (c.put-a.ensures then c.put_number.ensures.0, omega arith)
