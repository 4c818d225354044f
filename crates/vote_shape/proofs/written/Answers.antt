use borrow.Author.Tests.{le-leb, lt-leb}
use Rattle.vote_shape.specs.Voted.{written}
use Rattle.vote_shape.proofs.written.Goals as goal

pub returns-then-count-gt-HISTORY : goal.returns-then-count-gt-HISTORY
unfolding written
returns-then-count-gt-HISTORY c = rw (lt-leb _ _ c.if-count-gt-HISTORY.true)

pub returns : goal.returns
unfolding written
returns c = rw (le-leb _ _ c.if-count-gt-HISTORY.false, ← c.pairs-pairs.ensures) c.laid.ensures
