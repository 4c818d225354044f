use Rattle.lines.specs.Lines.{no_round}
use Rattle.lines.proofs.Puts.{◌then◌, put_whole}
use Rattle.lines.proofs.put_no_round.Goals as goal

pub returns : goal.returns
unfolding no_round
returns c = put_whole (c.put-a.ensures then c.put_line.ensures.0)
