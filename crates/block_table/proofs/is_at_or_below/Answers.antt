use mathlib.Core.Path.{sym, ◌∙◌}
use native.Mathlib.Omega.{arith}
use borrow.Author.Tests.{le-ltb, lt-ltb}
use borrow.Author.Rules.{rules}
use Rattle.loops.proofs.Tests.{T_true}
use Rattle.block_shape.proofs.Shapes.{tabled_shaped}
use Rattle.block_table.specs.Ask.{is_at_or_below}
use Rattle.block_table.proofs.Counts.{used_ok, used_err}
use Rattle.block_table.proofs.is_at_or_below.Goals as goal
use Rattle.block_table.proofs.is_at_or_below.Goals.{then-count-base-via-then-count-base, then-count-base-via-else-count-base+then-count-block}

pub returns-in_err-count : goal.returns-in_err-count
unfolding is_at_or_below
returns-in_err-count c =
    let u = used_err _ (sym c.used.ensures ∙ c.in_err-count.was) in
    rw (u.0, ← u.1) (search rules)

pub is_at_or_below-requires : goal.is_at_or_below-requires
is_at_or_below-requires c =
    let u = used_ok _ (sym c.used.ensures ∙ c.in_ok-count.was) in
    let w = tabled_shaped _ (T_true u.0) in
    (_, w.tree, omega (arith, u.1, c.if-count-base.false), omega (arith, u.1, c.if-count-block.false))

pub returns-then-count-base : goal.returns-then-count-base
unfolding is_at_or_below
returns-then-count-base c =
    let u = used_ok _ (sym c.used.ensures ∙ c.in_ok-count.was) in
    elim c.then-count-base.branch [
      | then-count-base-via-then-count-base w ↦ rw (u.0, ← u.1, le-ltb _ _ w.if-count-base.true)
      | then-count-base-via-else-count-base+then-count-block w ↦ rw (u.0, ← u.1, lt-ltb _ _ w.if-count-base.false, le-ltb _ _ w.if-count-block.true)
    ]

pub returns : goal.returns
unfolding is_at_or_below
returns c =
    let u = used_ok _ (sym c.used.ensures ∙ c.in_ok-count.was) in
    rw (u.0, ← u.1, lt-ltb _ _ c.if-count-base.false, lt-ltb _ _ c.if-count-block.false, c.is_at_or_below.ensures)
