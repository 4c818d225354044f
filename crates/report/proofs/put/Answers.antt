use mathlib.Core.Path.{sym, ap, ◌∙◌}
use Rattle.lines.specs.Lines as text
use Rattle.report.proofs.Prints.{put_as, lines_stopped, lines_round, lines_early}
use Rattle.report.proofs.put.Goals as goal

pub returns-in-Err : goal.returns-in-Err
returns-in-Err c = put_as _ _ ((λ i. text.refused (c.number.ensures i) (c.more.ensures i)) ∙ sym (lines_stopped c.args.replay _ c.in-Err.is)) _ _ _ c.put_refused.ensures

pub returns-in-Votes : goal.returns-in-Votes
returns-in-Votes c = put_as _ _ (sym (lines_round c.args.replay c.in-Ok.is c.in-Votes.is)) _ _ _ c.put_round.ensures

pub returns-in-Blocks : goal.returns-in-Blocks
returns-in-Blocks c = put_as _ _ (sym (lines_early c.args.replay c.in-Ok.is c.in-Blocks.is)) _ _ _ c.put_no_round.ensures
