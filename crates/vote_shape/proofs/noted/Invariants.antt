use lib.ListN.{length}
use Rattle.sizes.specs.Sizes.{BLOCKS}
use Rattle.vote_shape.proofs.Marks.{Marked, before}
use Rattle.vote_shape.proofs.noted.Given as goal

abbrev pub invariant-loop-n : goal.invariant-loop-n
invariant-loop-n l = Marked BLOCKS l.marks (before l.base l.counts l.first_block (length l.yielded)) BLOCKS
