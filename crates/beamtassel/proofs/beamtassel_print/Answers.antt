use Rattle.beamtassel.proofs.Called.{print_done}
use Rattle.beamtassel.proofs.beamtassel_print.Goals as goal

pub returns : goal.returns
returns c = print_done c.args.journal.now c.args.out.now _ c.replayed.ensures _ _ _ c.number_of.ensures c.print.ensures
