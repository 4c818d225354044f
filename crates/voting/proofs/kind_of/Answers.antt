use mathlib.Core.Path.{sym, ap}
use Rattle.voting.specs.Voting.{kind_of}
use Rattle.voting.proofs.kind_of.Goals as goal

pub returns-in-Pv : goal.returns-in-Pv
returns-in-Pv c = sym (ap kind_of c.in-Pv.is)

pub returns-in-Pc : goal.returns-in-Pc
returns-in-Pc c = sym (ap kind_of c.in-Pc.is)
