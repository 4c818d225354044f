use Rattle.summary.specs.Summary.{of_round}
use Rattle.summary.proofs.of_round.Goals as goal

pub returns : goal.returns
unfolding of_round
returns c = rw (c.block_of-prevote.ensures, c.block_of-estimate.ensures, c.block_of-finalized.ensures, c.heard_in-prevoters.ensures, c.heard_in-precommitters.ensures)
