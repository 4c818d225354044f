use Rattle.context.proofs.VoteNode.add_node.Goals as goal

pub returns : goal.returns
returns c = rw c.merge-both.ensures
