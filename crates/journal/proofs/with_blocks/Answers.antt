use Rattle.journal.proofs.with_blocks.Goals as goal

pub returns : goal.returns
returns c = rw (c.opened.ensures, c.no_pairs.ensures)
