use Rattle.bitfield.proofs.iter1s_merged_even.Goals as goal

pub returns : goal.returns
returns c = rw (c.iter1s_even.ensures, c.merge.ensures)
