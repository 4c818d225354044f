use borrow.Author.Tests.{eq-eqb, ne_eqb}
use Rattle.blocks.specs.Add.{append}
use Rattle.blocks.proofs.append.Goals as goal

pub returns-then-number : goal.returns-then-number
unfolding append
returns-then-number c = rw (← c.number-number.ensures, eq-eqb _ _ c.if-number.true)

pub returns-then-count-eq-BLOCKS : goal.returns-then-count-eq-BLOCKS
unfolding append
returns-then-count-eq-BLOCKS c = rw (← c.number-number.ensures, ne_eqb _ _ c.if-number.false, eq-eqb _ _ c.if-count-eq-BLOCKS.true)

pub returns : goal.returns
unfolding append
returns c = rw (← c.number-number.ensures, ne_eqb _ _ c.if-number.false, ne_eqb _ _ c.if-count-eq-BLOCKS.false)
