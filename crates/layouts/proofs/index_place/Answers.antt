use native.Mathlib.Omega.{arith}
use Rattle.layouts.specs.Layout.{index_place, place_of, RUN}
use Rattle.layouts.proofs.index_place.Goals as goal

pub returns : goal.returns
unfolding index_place place_of RUN
returns c = (omega arith, omega arith)
