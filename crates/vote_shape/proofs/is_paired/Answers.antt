use Rattle.vote_shape.proofs.is_paired.Goals as goal

pub returns : goal.returns
returns c = rw (c.wide.ensures.0, c.entry_index.ensures.0, c.entry_pair.ensures.0)
