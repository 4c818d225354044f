use Rattle.context.proofs.Vote.new.Goals as goal

pub returns : goal.returns
returns c = rw c.bit_of.ensures
