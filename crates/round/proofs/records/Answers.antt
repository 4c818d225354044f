use Rattle.round.specs.Ask.{records}
use Rattle.round.proofs.records.Goals as goal

pub returns : goal.returns
unfolding records
returns c = c.write.ensures
