use Rattle.context.proofs.Context.equivocated.Goals as goal

pub returns : goal.returns
returns c = rw (c.set_bit-more.ensures, c.bit_of.ensures)
