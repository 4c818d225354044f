use mathlib.Core.Path.{◌∙◌}
use Rattle.feeding.proofs.Goes.{run_short, went_none}
use Rattle.feeding.proofs.went.Goals as goal

pub after-requires : goal.after-requires
after-requires c = (c.run.ensures.1.0, run_short _ _ c.run.result c.run.ensures.0)

pub returns-then-rest-eq0 : goal.returns-then-rest-eq0
returns-then-rest-eq0 c = c.after.ensures ∙ went_none c.args.journal c.args.rest _ _ c.if-rest-eq0.true _ c.run.ensures.0
