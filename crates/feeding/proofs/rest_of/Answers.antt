use Rattle.feeding.proofs.Goes.{rest_done}
use Rattle.feeding.proofs.rest_of.Goals as goal

pub returns : goal.returns
returns c = rest_done _ _ c.copy.ensures
