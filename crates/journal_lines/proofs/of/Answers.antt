use Rattle.std.proofs.Common.{rules}
use Rattle.journal_lines.proofs.Printed.{begins}
use Rattle.journal_lines.proofs.of.Goals as goal

pub returns : goal.returns
returns c = let p = begins c.args.replay c.args.out.now c.in-Ok.size c.print.new.out c.in-Ok.ensures in search (rules, p)
