use Rattle.journal.proofs.with_pairs.Goals as goal

pub returns : goal.returns
returns c = rw (c.opened.ensures, c.no_blocks.ensures, c.nobody.ensures)
