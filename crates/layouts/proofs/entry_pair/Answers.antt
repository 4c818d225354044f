use native.Mathlib.Omega.{arith}
use Rattle.layouts.specs.Layout.{entry_pair}
use Rattle.layouts.proofs.entry_pair.Goals as goal

pub returns : goal.returns
unfolding entry_pair
returns c = (omega arith, omega arith)
