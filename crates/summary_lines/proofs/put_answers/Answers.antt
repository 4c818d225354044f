use Rattle.summary_lines.specs.Text.{answer_text}
use Rattle.lines.proofs.Puts.{◌then◌}
use native.Mathlib.Omega.{arith}
use Rattle.summary_lines.proofs.put_answers.Goals as goal

pub returns : goal.returns
unfolding answer_text
returns c = (c.put_block-a.ensures.0 then c.put_block-b.ensures.0 then c.put_block-c.ensures.0 then c.put_completable.ensures.0, omega arith)
