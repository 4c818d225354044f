use Rattle.voting.proofs.pair.Goals as goal

pub returns : goal.returns
returns c = rw (c.word.ensures.0, c.word-2.ensures.0, c.long.ensures)
