use Rattle.context.proofs.weighing.of_phase.Goals as goal

pub returns-in-Prevote : goal.returns-in-Prevote
returns-in-Prevote c = rw (c.in-Prevote.is, c.even_bits.ensures)

pub returns-in-Precommit : goal.returns-in-Precommit
returns-in-Precommit c = rw (c.in-Precommit.is, c.odd_bits.ensures)
