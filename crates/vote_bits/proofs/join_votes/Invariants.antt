use Prim.Native.Nat.{◌≤◌, ◌-◌}
use Rattle.sizes.specs.Sizes.{VOTES, BLOCKS}
use Rattle.nodes.specs.Nodes.{Falls}
use Rattle.vote_bits.specs.Told.{Held}
use Rattle.vote_bits.proofs.Joins.{sofar, Small, lifted}
use Rattle.vote_bits.proofs.join_votes.Given as goal

abbrev pub invariant-loop-j : goal.invariant-loop-j
invariant-loop-j l = (l.j ≤ VOTES) × Small l.counts l.first_block l.j × Held l.rows (sofar l.counts l.first_block l.j)

abbrev pub invariant-loop-low : goal.invariant-loop-low
invariant-loop-low l = (1 ≤ l.low) × (l.low ≤ BLOCKS) × ((falls : Falls l.parents) → Held l.rows (lifted l.parents l.counts l.first_block falls (l.low - 1)))
