use borrow.Author.Tests.{eq-eqb, ne_eqb}
use Rattle.listing.proofs.finalizes.Goals as goal

pub returns-then-counts-at-ne1 : goal.returns-then-counts-at-ne1
returns-then-counts-at-ne1 c = rw (ne_eqb _ _ c.if-counts-at-ne1.true)

pub returns : goal.returns
returns c = rw (eq-eqb _ _ c.if-counts-at-ne1.false) c.reaches.ensures
