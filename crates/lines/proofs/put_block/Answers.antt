use Rattle.lines.specs.Lines.{block_line}
use Rattle.lines.proofs.Puts.{◌then◌}
use native.Mathlib.Omega.{arith}
use Rattle.lines.proofs.put_block.Goals as goal

pub returns : goal.returns
unfolding block_line
returns c = (c.put-a.ensures then c.put_told.ensures.0, omega arith)
