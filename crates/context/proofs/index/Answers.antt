use Rattle.context.specs.Votes.{bit}
use Rattle.context.proofs.index.Goals as goal

pub returns : goal.returns
unfolding bit
returns c = (rw (c.index.ensures.0, c.offset.ensures.0), c.index.ensures.1)
