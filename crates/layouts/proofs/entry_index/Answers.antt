use native.Mathlib.Omega.{arith}
use Rattle.layouts.specs.Layout.{entry_index}
use Rattle.layouts.proofs.entry_index.Goals as goal

pub returns : goal.returns
unfolding entry_index
returns c = (omega arith, omega arith)
