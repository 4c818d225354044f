use Rattle.summary_lines.specs.Text.{round_text}
use Rattle.lines.proofs.Puts.{◌then◌, put_whole}
use Rattle.summary_lines.proofs.put_round.Goals as goal

pub returns : goal.returns
unfolding round_text
returns c = put_whole (c.put_line-a.ensures.0 then c.put_heard-b.ensures.0 then c.put_heard-c.ensures.0 then c.put_answers-d.ensures.0 then c.put_line.ensures.0)
