use native.Mathlib.Omega.{arith}
use Rattle.layouts.specs.Layout.{index_phase, phase_of, RUN}
use Rattle.layouts.proofs.index_phase.Goals as goal

pub returns : goal.returns
unfolding index_phase phase_of RUN
returns c = (omega arith, omega arith)
