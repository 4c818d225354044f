use borrow.Author.Tests.{eq-eqb, ne_eqb}
use Rattle.context.specs.Votes.{phase_at}
use Rattle.context.proofs.phase_at.Goals as goal

pub returns-then-index_phase-eq0 : goal.returns-then-index_phase-eq0
unfolding phase_at
returns-then-index_phase-eq0 c = rw (← c.index_phase.ensures.0, eq-eqb _ _ c.if-index_phase-eq0.true)

pub returns : goal.returns
unfolding phase_at
returns c = rw (← c.index_phase.ensures.0, ne_eqb _ _ c.if-index_phase-eq0.false)
