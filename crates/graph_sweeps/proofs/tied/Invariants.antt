use mathlib.Core.Bool.{true, false, cond}
use mathlib.Core.Path.{◌≡◌}
use Prim.Native.Nat.{◌≤◌, ◌-◌}
use lib.Dec.{eqb}
use lib.ListN.{get_or}
use Rattle.sizes.specs.Sizes.{BLOCKS}
use Rattle.loops.specs.All.{all}
use Rattle.graph.specs.Search.{nearest}
use Rattle.nodes.specs.Nodes.{col, flag}
use Rattle.graph_sweeps.proofs.Sweeps.{Near}
use Rattle.graph_sweeps.proofs.tied.Given as goal

abbrev pub invariant-loop-k : goal.invariant-loop-k
invariant-loop-k l =
    (l.k ≤ BLOCKS) × (all l.k (λ j. eqb (get_or l.above j 0) (cond (get_or l.rest j false) (nearest (col l.parents) (flag l.used) (get_or l.parents j 0)) 0)) ≡ true)
    × Near (col l.parents) (flag l.used) l.near l.k

abbrev pub decreases-loop-k : goal.decreases-loop-k
decreases-loop-k l = BLOCKS - l.k
