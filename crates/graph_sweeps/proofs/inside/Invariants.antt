use mathlib.Core.Bool.{true, false, not, ◌&&◌, ◌||◌}
use mathlib.Core.Path.{◌≡◌}
use Prim.Native.Nat.{◌≤◌, ◌-◌}
use lib.Dec.{ltb}
use lib.ListN.{get_or}
use Rattle.sizes.specs.Sizes.{BLOCKS}
use Rattle.loops.specs.All.{all}
use Rattle.grandpa.specs.Tree.{below}
use Rattle.nodes.specs.Nodes.{col}
use Rattle.graph_sweeps.proofs.Sweeps.{Under}
use Rattle.graph_sweeps.proofs.inside.Given as goal

abbrev pub invariant-loop-k : goal.invariant-loop-k
invariant-loop-k l =
    (l.k ≤ BLOCKS) × (all l.k (λ j. not (get_or l.used j false) || (ltb j l.count && below (col l.parents) l.base j)) ≡ true) × Under (col l.parents) l.base l.under l.k

abbrev pub decreases-loop-k : goal.decreases-loop-k
decreases-loop-k l = BLOCKS - l.k
