use mathlib.Core.Path.{refl}
use Rattle.block_index.specs.Index.{slot}
use Rattle.block_index.proofs.slot.Goals as goal

pub returns : goal.returns
unfolding slot
returns c = refl
