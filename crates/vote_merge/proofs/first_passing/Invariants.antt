use mathlib.Core.Path.{◌≡◌}
use Prim.Native.Nat.{◌-◌}
use lib.ListN.{length}
use Rattle.graph.specs.Ghost.{first_in}
use Rattle.nodes.specs.Nodes.{row}
use Rattle.vote_merge.proofs.Turns.{rest}
use Rattle.vote_merge.proofs.first_passing.Given as goal

abbrev pub invariant-loop-place : goal.invariant-loop-place
invariant-loop-place g l =
    first_in (λ n. g.Q.Asks.asks l.question (row l.rows n)) l.places
    ≡ first_in (λ n. g.Q.Asks.asks l.question (row l.rows n)) (rest (length l.places - l.place-index) l.place-index l.places)
