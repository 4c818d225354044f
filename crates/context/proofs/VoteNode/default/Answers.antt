use Rattle.context.proofs.VoteNode.default.Goals as goal

pub returns : goal.returns
returns c = rw c.new.ensures
