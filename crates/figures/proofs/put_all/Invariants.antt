use Rattle.figures.proofs.Rows.{Filled}
use Rattle.figures.proofs.put_all.Given as goal

abbrev pub invariant-loop-number : goal.invariant-loop-number
invariant-loop-number l = Filled l.fn.numbers l.initial.out l.number-index l.out l.used
