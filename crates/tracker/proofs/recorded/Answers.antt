use borrow.Author.Tests.{eq-eqb, ne_eqb}
use Rattle.tracker.specs.Recorded.{recorded}
use Rattle.tracker.proofs.recorded.Goals as goal

pub returns-then-n-eq0 : goal.returns-then-n-eq0
unfolding recorded
returns-then-n-eq0 c = rw (eq-eqb _ _ c.if-n-eq0.true)

pub returns-then-n-eq1 : goal.returns-then-n-eq1
unfolding recorded
returns-then-n-eq1 c = rw (ne_eqb _ _ c.if-n-eq0.false, eq-eqb _ _ c.if-n-eq1.true, c.first_pair-first.ensures)

pub returns : goal.returns
unfolding recorded
returns c = rw (ne_eqb _ _ c.if-n-eq0.false, ne_eqb _ _ c.if-n-eq1.false, c.first_pair-first.ensures)
