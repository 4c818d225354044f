use mathlib.Core.Bool.{true, false, ◌||◌}
use mathlib.Core.Path.{◌≡◌}
use lib.Dec.{leb}
use lib.ListN.{length, get_or}
use Rattle.loops.specs.All.{all}
use Rattle.vote_shape.proofs.targets_used.Given as goal

abbrev pub invariant-loop-n : goal.invariant-loop-n
invariant-loop-n l = all (length l.yielded) (λ i. leb (get_or l.counts i 0) 0 || get_or l.used (get_or l.first_block i 0) false) ≡ true
