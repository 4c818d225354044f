use borrow.Author.Tests.{lt-ltb, le-ltb}
use lib.ListN.{length}
use Rattle.figures.specs.Figures.{figured}
use Rattle.figures.proofs.write.Goals as goal

pub returns-then-out-lt176 : goal.returns-then-out-lt176
unfolding figured
returns-then-out-lt176 c = rw (lt-ltb (length c.args.out.now) 176 c.if-out-lt176.true)

pub returns : goal.returns
unfolding figured
returns c = rw (le-ltb (length c.args.out.now) 176 c.if-out-lt176.false, c.put_all.ensures, c.figures.ensures)
