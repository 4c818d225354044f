use Rattle.nodes.specs.Nodes.{passes}
use Rattle.nodes.proofs.PossibleAsks.passes.Goals as goal

pub returns : goal.returns
unfolding passes
returns c = rw (c.holds.ensures, c.merged_weight-weight.ensures)
