use native.Mathlib.Omega.{arith}
use Rattle.std.proofs.lemmas.Bool.Decides.{nat_tests}
use Rattle.two_views.specs.Views.{agree}
use Rattle.two_views.proofs.Agreements.{voters_eq, table_eq}
use Rattle.two_views.proofs.agree.Goals as goal

pub returns-then-eq : goal.returns-then-eq
unfolding agree
returns-then-eq c = grind (arith, nat_tests, voters_eq, table_eq)

pub returns-else-eq : goal.returns-else-eq
unfolding agree
returns-else-eq c = grind (arith, nat_tests, voters_eq, table_eq)
