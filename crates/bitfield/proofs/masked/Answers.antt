use mathlib.Core.Path.{refl}
use Rattle.bitfield.specs.Bits.{words}
use Rattle.bitfield.proofs.masked.Goals as goal

pub returns : goal.returns
unfolding words
returns c = refl
