use mathlib.Core.Path.{sym, ◌∙◌}
use native.Mathlib.Omega.{arith}
use borrow.Author.Tests.{le-ltb, lt-ltb, le-leb, lt-leb}
use borrow.Author.Rules.{rules}
use Rattle.loops.proofs.Tests.{T_true}
use Rattle.block_shape.proofs.Shapes.{tabled_shaped}
use Rattle.block_table.specs.Ask.{ancestor_at}
use Rattle.block_table.proofs.Counts.{used_ok, used_err}
use Rattle.block_table.proofs.ancestor_at.Goals as goal

pub returns-in_err-used : goal.returns-in_err-used
unfolding ancestor_at
returns-in_err-used c =
    let u = used_err _ (sym c.used.ensures ∙ c.in_err-used.was) in
    rw (u.0, ← u.1) (search rules)

pub returns-then-branch-block : goal.returns-then-branch-block
unfolding ancestor_at
returns-then-branch-block c =
    let u = used_ok _ (sym c.used.ensures ∙ c.in_ok-used.was) in
    rw (u.0, ← u.1, le-ltb _ _ c.if-branch-block.true)

pub returns-then-wanted-number : goal.returns-then-wanted-number
unfolding ancestor_at
returns-then-wanted-number c =
    let u = used_ok _ (sym c.used.ensures ∙ c.in_ok-used.was) in
    rw (u.0, ← u.1, lt-ltb _ _ c.if-branch-block.false, ← c.number.ensures, lt-leb _ _ c.if-wanted-number.true)

pub returns-then-number-wanted : goal.returns-then-number-wanted
unfolding ancestor_at
returns-then-number-wanted c =
    let u = used_ok _ (sym c.used.ensures ∙ c.in_ok-used.was) in
    rw (u.0, ← u.1, lt-ltb _ _ c.if-branch-block.false, ← c.number.ensures, le-leb _ _ c.if-wanted-number.false, ← c.number-2.ensures, lt-leb _ _ c.if-number-wanted.true)

pub ancestor_at-requires : goal.ancestor_at-requires
ancestor_at-requires c =
    let u = used_ok _ (sym c.used.ensures ∙ c.in_ok-used.was) in
    let w = tabled_shaped _ (T_true u.0) in
    (_, w.tree, omega (arith, u.1, c.if-branch-block.false), omega (arith, c.number.ensures, c.if-wanted-number.false))

pub returns : goal.returns
unfolding ancestor_at
returns c =
    let u = used_ok _ (sym c.used.ensures ∙ c.in_ok-used.was) in
    rw (u.0, ← u.1, lt-ltb _ _ c.if-branch-block.false, ← c.number.ensures, le-leb _ _ c.if-wanted-number.false, ← c.number-2.ensures, le-leb _ _ c.if-number-wanted.false, c.ancestor_at.ensures)
