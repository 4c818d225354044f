use mathlib.Core.Path.{sym, ◌∙◌}
use borrow.Author.Tests.{lt-ltb, le-ltb, lt-leb}
use Rattle.feeding.specs.Feeding.{rest_stands}
use Rattle.feeding.proofs.Goes.{not_cut}
use Rattle.feeding.proofs.is_rest.Goals as goal

pub returns-in-Cut : goal.returns-in-Cut
unfolding rest_stands
returns-in-Cut c = rw (le-ltb _ _ c.if-rest-le22.true, sym c.read.ensures ∙ c.in-Cut.is)

pub returns-in_default : goal.returns-in_default
unfolding rest_stands
returns-in_default c = rw (le-ltb _ _ c.if-rest-le22.true, sym c.read.ensures, not_cut _ c.in_default.not-Cut)

pub returns-else-rest-le22 : goal.returns-else-rest-le22
unfolding rest_stands
returns-else-rest-le22 c = rw (lt-ltb _ _ c.if-rest-le22.false, lt-leb _ _ c.if-rest-le22.false)
