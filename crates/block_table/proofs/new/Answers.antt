use mathlib.Core.Path.{refl}
use Rattle.block_table.specs.Add.{opened}
use Rattle.block_table.proofs.new.Goals as goal

pub returns : goal.returns
unfolding opened
returns c = refl
