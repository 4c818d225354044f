use mathlib.Core.Bool.{true, false, ◌||◌}
use mathlib.Core.List.{[]}
use mathlib.Core.Path.{◌≡◌}
use lib.ListN.{length, get_or}
use Rattle.loops.specs.All.{all}
use Rattle.graph_lists.specs.Listed.{zero_bits}
use Rattle.graph_lists.proofs.bare.Given as goal

abbrev pub invariant-loop-node : goal.invariant-loop-node
invariant-loop-node l = all (length l.yielded) (λ j. get_or l.used j false || zero_bits (get_or l.rows j [])) ≡ true
