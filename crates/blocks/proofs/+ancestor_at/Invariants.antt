use Prim.Native.Nat.{◌-◌}
use lib.ListN.{get_or}
use Rattle.blocks.proofs.+ancestor_at.Given as goal

abbrev pub decreases-ancestor_at : goal.decreases-ancestor_at
decreases-ancestor_at l = get_or l.numbers.now l.block 0 - l.wanted
