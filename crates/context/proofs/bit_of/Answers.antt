use Rattle.context.specs.Votes.{bit}
use Rattle.context.proofs.bit_of.Goals as goal

pub returns : goal.returns
unfolding bit
returns c = rw (c.bit.ensures, c.offset.ensures.0)
