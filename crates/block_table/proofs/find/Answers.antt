use mathlib.Core.Path.{sym, ◌∙◌}
use native.Mathlib.Omega.{arith}
use borrow.Author.Rules.{rules}
use Rattle.loops.proofs.Tests.{T_true}
use Rattle.block_shape.proofs.Shapes.{tabled_shaped}
use Rattle.block_table.specs.Ask.{find}
use Rattle.block_table.proofs.Counts.{used_ok, used_err}
use Rattle.block_table.proofs.find.Goals as goal

pub returns-in_err-used : goal.returns-in_err-used
unfolding find
returns-in_err-used c =
    let u = used_err _ (sym c.used.ensures ∙ c.in_err-used.was) in
    rw (u.0, ← u.1) (search rules)

pub find-requires : goal.find-requires
find-requires c =
    let u = used_ok _ (sym c.used.ensures ∙ c.in_ok-used.was) in
    omega (arith, u.1, (tabled_shaped _ (T_true u.0)).few)

pub returns : goal.returns
unfolding find
returns c =
    let u = used_ok _ (sym c.used.ensures ∙ c.in_ok-used.was) in
    rw (u.0, c.find.ensures, u.1)
