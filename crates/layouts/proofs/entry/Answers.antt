use native.Mathlib.Omega.{arith}
use Rattle.layouts.specs.Layout.{entry}
use Rattle.layouts.proofs.entry.Goals as goal

pub returns : goal.returns
unfolding entry
returns c = (omega arith, omega arith)
