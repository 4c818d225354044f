use Rattle.beamtassel.proofs.Called.{replay_done}
use Rattle.beamtassel.proofs.beamtassel_replay.Goals as goal

pub returns : goal.returns
returns c = replay_done c.args.journal.now c.args.out.now _ c.replayed.ensures _ _ _ c.number_of.ensures c.write.ensures
