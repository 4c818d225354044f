use native.Mathlib.Omega.{arith}
use Rattle.layouts.specs.Layout.{index, bit, RUN}
use Rattle.layouts.proofs.index.Goals as goal

pub returns : goal.returns
unfolding index bit RUN
returns c = (omega arith, omega arith)
