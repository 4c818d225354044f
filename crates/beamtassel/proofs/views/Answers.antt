use mathlib.Core.Path.{◌∙◌}
use Rattle.beamtassel.specs.Calls.{compared, two_views_call}
use Rattle.beamtassel.proofs.views.Goals as goal

pub compared-requires : goal.compared-requires
compared-requires c = (c.args.first.now, c.args.second.now, c.replayed-one.ensures, c.replayed-other.ensures)

pub returns : goal.returns
unfolding two_views_call
returns c = c.compared.ensures ∙ (λ i. compared (c.replayed-one.ensures i) (c.replayed-other.ensures i) c.args.out.now)
