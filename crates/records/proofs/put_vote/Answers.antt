use Rattle.records.specs.Bytes.{vote_bytes}
use Rattle.records.proofs.put_vote.Goals as goal

pub returns : goal.returns
unfolding vote_bytes
returns c = rw (← c.mark.ensures) c.put.ensures
