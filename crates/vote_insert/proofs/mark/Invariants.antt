use mathlib.Core.Path.{◌≡◌}
use Prim.Native.Nat.{◌<◌}
use Rattle.sizes.specs.Sizes.{BLOCKS}
use Rattle.vote_insert.specs.Insert.{marked}
use Rattle.vote_insert.proofs.mark.Given as goal

abbrev pub invariant-loop-at : goal.invariant-loop-at
invariant-loop-at l = (l.at < BLOCKS) × (marked l.above l.base l.bit l.block l.initial.rows ≡ marked l.above l.base l.bit l.at l.rows)

abbrev pub decreases-loop-at : goal.decreases-loop-at
decreases-loop-at l = l.at
