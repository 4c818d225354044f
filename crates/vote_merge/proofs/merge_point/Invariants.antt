use mathlib.Core.Path.{◌≡◌}
use Prim.Native.Nat.{ℕ, ◌<◌, ◌≤◌, ◌-◌, ◌+◌}
use Rattle.sizes.specs.Sizes.{BLOCKS}
use Rattle.loops.specs.Listing.{front}
use Rattle.graph.specs.Ghost.{merge}
use Rattle.nodes.specs.Nodes.{col, row}
use Rattle.vote_merge.specs.Merges.{Lower}
use Rattle.vote_merge.proofs.merge_point.Given as goal

abbrev pub invariant-loop-left : goal.invariant-loop-left
invariant-loop-left g l =
    (l.best < BLOCKS) × (l.left.count ≤ BLOCKS) × Lower l.parents l.best (front l.left.count l.left.places) × (f : ℕ) × (BLOCKS ≤ l.best + f)
    × (merge (col l.parents) (row l.rows) (g.Q.Asks.asks l.question) BLOCKS l.block (front l.initial.left.count l.initial.left.places)
    ≡ merge (col l.parents) (row l.rows) (g.Q.Asks.asks l.question) f l.best (front l.left.count l.left.places))

abbrev pub decreases-loop-left : goal.decreases-loop-left
decreases-loop-left g l = BLOCKS - l.best
