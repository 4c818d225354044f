use mathlib.Core.Path.{◌≡◌}
use Prim.Native.Nat.{ℕ, ◌<◌, ◌≤◌, ◌-◌, ◌+◌}
use Rattle.sizes.specs.Sizes.{BLOCKS}
use Rattle.loops.specs.Listing.{front}
use Rattle.graph.specs.Ghost.{settle, following}
use Rattle.nodes.specs.Nodes.{col}
use Rattle.vote_search.specs.Searches.{unheaded}
use Rattle.vote_merge.specs.Merges.{Lower}
use Rattle.vote_search.proofs.descend.Given as goal

abbrev pub invariant-loop-nodes : goal.invariant-loop-nodes
invariant-loop-nodes g l =
    (l.last < BLOCKS) × (l.nodes.count ≤ BLOCKS) × Lower l.parents l.last (front l.nodes.count l.nodes.places) × (f : ℕ) × (BLOCKS ≤ l.last + f)
    × (settle (col l.parents) (unheaded l.used l.rows l.order l.listed) (g.Q.Asks.asks l.question) BLOCKS l.block (following (col l.parents) (unheaded l.used l.rows l.order l.listed) l.block)
    ≡ settle (col l.parents) (unheaded l.used l.rows l.order l.listed) (g.Q.Asks.asks l.question) f l.last (front l.nodes.count l.nodes.places))

abbrev pub decreases-loop-nodes : goal.decreases-loop-nodes
decreases-loop-nodes g l =
    BLOCKS - l.last
