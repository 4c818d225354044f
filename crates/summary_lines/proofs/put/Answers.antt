use mathlib.Core.Path.{sym, ap, ◌∙◌}
use Rattle.lines.specs.Lines as lines
use Rattle.report.proofs.Prints.{put_as}
use Rattle.summary_lines.proofs.Prints.{text_when}
use Rattle.summary_lines.proofs.put.Goals as goal

pub returns-in-Voting : goal.returns-in-Voting
returns-in-Voting c = put_as _ _ (sym (text_when c.args.summary _ c.in-Voting.is)) _ _ _ c.put_round.ensures

pub returns-in-Early : goal.returns-in-Early
returns-in-Early c = put_as _ _ (sym (text_when c.args.summary _ c.in-Early.is)) _ _ _ c.put_no_round.ensures

pub returns-in-Refused : goal.returns-in-Refused
returns-in-Refused c = put_as _ _ ((λ i. lines.refused (c.number.ensures i) (c.more.ensures i)) ∙ sym (text_when c.args.summary _ c.in-Refused.is)) _ _ _ c.put_refused.ensures
