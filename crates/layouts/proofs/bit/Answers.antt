use native.Mathlib.Omega.{arith}
use Rattle.layouts.specs.Layout.{index, bit, RUN}
use Rattle.layouts.proofs.bit.Goals as goal

pub returns-then-run : goal.returns-then-run
unfolding index bit RUN
returns-then-run c = omega arith

pub returns-then-high : goal.returns-then-high
unfolding index bit RUN
returns-then-high c = omega arith

pub returns-then-start-rest : goal.returns-then-start-rest
unfolding index bit RUN
returns-then-start-rest c = omega arith

pub returns : goal.returns
unfolding index bit RUN
returns c = omega arith
