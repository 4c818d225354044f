use Rattle.lines.proofs.Rounds.{put_lines}
use Rattle.lines.proofs.put_round.Goals as goal

pub returns : goal.returns
returns c = put_lines c.args.round _ _ _ c.heard_in-prevoters.ensures c.heard_in-precommitters.ensures c.put_line-a.ensures.0 c.put_heard-b.ensures.0 c.put_heard-c.ensures.0 c.put_answers-d.ensures.0 c.put_line.ensures.0
