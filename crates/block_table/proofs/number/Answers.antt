use mathlib.Core.Path.{sym, ◌∙◌}
use borrow.Author.Rules.{rules}
use Rattle.block_table.specs.Ask.{number}
use Rattle.block_table.proofs.Counts.{used_ok, used_err, some_where}
use Rattle.block_table.proofs.number.Goals as goal

pub returns-in_err-known : goal.returns-in_err-known
unfolding number
returns-in_err-known c =
    let u = used_err _ (sym c.used.ensures ∙ c.in_err-known.was) in
    rw (u.0, ← u.1) (search rules)

pub returns : goal.returns
unfolding number
returns c =
    let u = used_ok _ (sym c.used.ensures ∙ c.in_ok-known.was) in
    rw (u.0, c.then_some.ensures, some_where _ _, c.number.ensures, u.1)
