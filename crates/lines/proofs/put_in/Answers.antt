use Rattle.lines.proofs.Puts.{put_part}
use Rattle.lines.proofs.put_in.Goals as goal

pub returns : goal.returns
returns c = put_part _ _ _ _ c.requires c.copy.ensures
