use mathlib.Core.Bool.{true, false, not, ◌||◌}
use mathlib.Core.Path.{◌≡◌}
use lib.ListN.{length, get_or}
use Rattle.loops.specs.All.{all}
use Rattle.vote_shape.proofs.only_marked.Given as goal

abbrev pub invariant-loop-node : goal.invariant-loop-node
invariant-loop-node l = all (length l.yielded) (λ j. not (get_or l.used j false) || get_or l.marks j false) ≡ true
