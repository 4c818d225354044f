use borrow.Author.Tests.{lt-ltb, le-ltb}
use Rattle.voter_set.proofs.seat.Goals as goal

pub returns-then-voters-gt-VOTERS : goal.returns-then-voters-gt-VOTERS
returns-then-voters-gt-VOTERS c = rw (lt-ltb _ _ c.if-voters-gt-VOTERS.true)

pub returns : goal.returns
returns c = rw (c.threshold.ensures, le-ltb _ _ c.if-voters-gt-VOTERS.false)
