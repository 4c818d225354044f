use Rattle.feeding.specs.Feeding.{kept_rest}
use Rattle.feeding.proofs.Replay.new.Goals as goal

pub returns : goal.returns
unfolding kept_rest
returns c = rw (c.with_pairs.ensures, c.no_pairs.ensures)
