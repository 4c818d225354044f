use mathlib.Core.Path.{refl}
use Rattle.feeding.specs.Feeding.{kept_rest}
use Rattle.feeding.proofs.stopped.Goals as goal

pub returns : goal.returns
unfolding kept_rest
returns c = refl
