use Rattle.graph_shape.proofs.others.Goals as goal

pub returns : goal.returns
returns c = rw c.wide.ensures.0
