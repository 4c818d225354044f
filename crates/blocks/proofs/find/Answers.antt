use mathlib.Core.Path.{sym, ◌∙◌}
use native.Mathlib.Omega.{arith}
use Rattle.columns.proofs.Finds.{find_at}
use Rattle.blocks.specs.Add.{place_of}
use Rattle.blocks.proofs.find.Goals as goal

pub returns-in_default : goal.returns-in_default
unfolding place_of
returns-in_default c = rw (sym c.find.ensures ∙ c.in_default.is)

pub overflow_cast-result : goal.overflow_cast-result
overflow_cast-result c = omega (arith, (find_at _ _ _ _ (sym c.find.ensures ∙ c.in-Some.is)).inside, c.requires)

pub returns : goal.returns
unfolding place_of
returns c = rw (sym c.find.ensures ∙ c.in-Some.is)
