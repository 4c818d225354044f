use Rattle.context.proofs.VoteNode.add_vote.Goals as goal

pub returns : goal.returns
returns c = rw c.set_bit-more.ensures
