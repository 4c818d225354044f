use mathlib.Core.Path.{◌∙◌}
use native.Mathlib.Omega.{arith}
use Rattle.voter_shape.proofs.Turns.{rising_one, rising_next, rising_end}
use Rattle.voter_shape.proofs.rising.Goals as goal

pub loop-k-init : goal.loop-k-init
loop-k-init c = (omega arith, omega arith, rising_one _)

pub loop-k-preserved : goal.loop-k-preserved
loop-k-preserved c = (omega arith, omega arith, rw c.loop-k.invariant.2 (rising_next _ _ c.loop-k.invariant.0))

pub returns : goal.returns
returns c = c.loop-k.invariant.2 ∙ rising_end _ _ _ c.loop-k.invariant.0 c.loop-k-test.false c.loop-k.invariant.1
