use Rattle.importing.proofs.with_heard.Goals as goal

pub returns-in-Prevote : goal.returns-in-Prevote
returns-in-Prevote c = rw (c.added.ensures, c.in-Prevote.is)

pub returns-in-Precommit : goal.returns-in-Precommit
returns-in-Precommit c = rw (c.added-in-Precommit.ensures, c.in-Precommit.is)
