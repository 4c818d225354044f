use Rattle.summing.specs.Summing.{of_parts}
use Rattle.summing.proofs.of_parts.Goals as goal

pub returns : goal.returns
unfolding of_parts
returns c = rw (c.block_of-prevote.ensures, c.block_of-estimate.ensures, c.block_of-finalized.ensures, c.heard-prevoters.ensures, c.heard-precommitters.ensures)
