use Rattle.nodes.specs.Nodes.{passes}
use Rattle.nodes.proofs.WeightyAsks.passes.Goals as goal

pub returns : goal.returns
unfolding passes
returns c = rw c.merged_weight-weight.ensures
