use Prim.Native.Nat.{◌≤◌}
use lib.Dec.{ltb}
use lib.ListN.{get_or}
use Rattle.sizes.specs.Sizes.{VOTES}
use Rattle.vote_bits.proofs.Sames.{Put}
use Rattle.vote_bits.proofs.doubled.Given as goal

abbrev pub invariant-loop-j : goal.invariant-loop-j
invariant-loop-j l = (l.j ≤ VOTES) × Put l.bits (λ i. ltb 1 (get_or l.counts i 0)) l.j
