use Rattle.importing.proofs.blank.Goals as goal

pub returns : goal.returns
returns c = rw (c.no_heard-heard.ensures, c.no_answers-stored.ensures)
