use mathlib.Core.Path.{◌≡◌, sym, ◌∙◌}
use native.Mathlib.Omega.{arith}
use lib.ListN.{length}
use borrow.Author.Tests.{lt-ltb, le-ltb}
use Rattle.loops.proofs.Sums.{sum_none, sum_more}
use Rattle.totals.proofs.Turns.{over}
use Rattle.totals.proofs.sum.Goals as goal

pub loop-weight-init : goal.loop-weight-init
loop-weight-init c = (omega arith, sym (sum_none _))

pub returns-in_err-total : goal.returns-in_err-total
returns-in_err-total c =
    c.from_residual.ensures ∙ rw (lt-ltb _ _ (over c.args.weights.now c.loop-weight.weight-index c.loop-weight-test.true (omega (arith, c.in_err-total.ensures, c.loop-weight.invariant.1))))

pub loop-weight-preserved : goal.loop-weight-preserved
loop-weight-preserved c =
    let e = c.in_ok-total.ensures in
    (omega (arith, e.0, e.1), e.1 ∙ rw c.loop-weight.invariant.1 (sym (sum_more _ _)))

pub returns : goal.returns
returns c =
    let e : c.loop-weight.weight-index ≡ length c.args.weights.now = omega (arith, c.loop-weight.auto.weight-index-end, c.loop-weight-test.false) in
    rw (← e, ← c.loop-weight.invariant.1, le-ltb _ _ c.loop-weight.invariant.0)
