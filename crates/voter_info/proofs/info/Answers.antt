use mathlib.Core.Path.{sym, ◌∙◌}
use Rattle.voter_info.specs.Info.{info}
use Rattle.voter_info.proofs.info.Goals as goal

pub returns-in_default : goal.returns-in_default
unfolding info
returns-in_default c = rw (sym c.new.ensures ∙ c.in_default.is)

pub returns : goal.returns
unfolding info
returns c = rw (sym c.new.ensures ∙ c.in-Some.is)
