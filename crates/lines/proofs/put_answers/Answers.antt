use Rattle.lines.specs.Lines.{answer_lines}
use Rattle.lines.proofs.Puts.{◌then◌}
use native.Mathlib.Omega.{arith}
use Rattle.lines.proofs.put_answers.Goals as goal

pub returns : goal.returns
unfolding answer_lines
returns c = rw (← c.block_of-ghost_told.ensures, ← c.block_of-estimate_told.ensures, ← c.block_of-final_told.ensures) (c.put_block-a.ensures.0 then c.put_block-b.ensures.0 then c.put_block-c.ensures.0 then c.put_completable.ensures.0, omega arith)
