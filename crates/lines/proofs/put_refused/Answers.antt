use Rattle.lines.specs.Lines.{refused}
use Rattle.lines.proofs.Puts.{◌then◌, put_whole}
use Rattle.lines.proofs.put_refused.Goals as goal

pub returns : goal.returns
unfolding refused
returns c = put_whole (c.put_named-a.ensures.0 then c.put_named-b.ensures.0 then c.put.ensures)
