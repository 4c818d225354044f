use mathlib.Core.Path.{sym, ap}
use Rattle.growing.specs.Growing.{turn_of}
use Rattle.growing.proofs.turn.Goals as goal

pub returns-in-Err : goal.returns-in-Err
returns-in-Err c = sym (ap turn_of c.in-Err.is)
