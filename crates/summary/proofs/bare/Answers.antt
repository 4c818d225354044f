use Rattle.summary.specs.Summary.{bare}
use Rattle.summary.proofs.bare.Goals as goal

pub returns : goal.returns
unfolding bare
returns c = rw c.no_heard.ensures
