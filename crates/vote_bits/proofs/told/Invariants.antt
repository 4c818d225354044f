use mathlib.Core.Bool.{true, false, not, ◌||◌}
use mathlib.Core.List.{[]}
use mathlib.Core.Path.{◌≡◌}
use Prim.Native.Nat.{◌≤◌}
use lib.ListN.{get_or}
use Rattle.sizes.specs.Sizes.{BLOCKS}
use Rattle.loops.specs.All.{all}
use Rattle.vote_bits.specs.Told.{lies, same_bits}
use Rattle.vote_bits.proofs.told.Given as goal

abbrev pub invariant-loop-x : goal.invariant-loop-x
invariant-loop-x l = (l.x ≤ BLOCKS) × (all l.x (λ k. not (get_or l.used k false) || same_bits (get_or l.rows k []) (lies l.parents l.counts l.first_block k)) ≡ true)
