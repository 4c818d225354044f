use Rattle.bitfield.proofs.iter1s_merged_odd.Goals as goal

pub returns : goal.returns
returns c = rw (c.iter1s_odd.ensures, c.merge.ensures)
