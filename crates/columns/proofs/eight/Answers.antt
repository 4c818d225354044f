use native.Mathlib.Nat.{add-zero}
use Rattle.loops.specs.All.{any}
use Rattle.columns.proofs.Finds.{or_false}
use Rattle.columns.proofs.eight.Goals as goal

pub returns : goal.returns
unfolding any
returns c = rw (or_false, add-zero)
