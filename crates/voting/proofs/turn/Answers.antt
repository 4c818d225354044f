use mathlib.Core.Path.{sym, ap}
use Rattle.voting.specs.Voting.{turn_of}
use Rattle.voting.proofs.turn.Goals as goal

pub returns-in-Err : goal.returns-in-Err
returns-in-Err c = sym (ap turn_of c.in-Err.is)
