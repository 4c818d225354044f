use mathlib.Core.Path.{◌≡◌}
use mathlib.Core.List.{List, []}
use Prim.Native.Nat.{ℕ, ◌-◌}
use lib.ListN.{length}
use Rattle.graph.specs.Ghost.{meets}
use Rattle.nodes.specs.Nodes.{col, row}
use Rattle.vote_merge.proofs.Turns.{rest}
use Rattle.vote_merge.proofs.Meetings.{Kept}
use Rattle.vote_merge.proofs.meets.Given as goal

abbrev pub invariant-loop-place : goal.invariant-loop-place
invariant-loop-place g l =
    (ns : List ℕ) × Kept (col l.parents) (row l.rows) l.block ns l.seen l.joined
    × (meets (col l.parents) (row l.rows) (g.Q.Asks.asks l.question) l.block [] l.places
    ≡ meets (col l.parents) (row l.rows) (g.Q.Asks.asks l.question) l.block ns (rest (length l.places - l.place-index) l.place-index l.places))
