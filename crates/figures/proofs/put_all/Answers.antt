use mathlib.Core.Path.{◌≡◌}
use native.Mathlib.Omega.{arith}
use lib.ListN.{length}
use Rattle.lines.proofs.Puts.{length_put}
use Rattle.figures.proofs.Rows.{filled_none, filled_next, filled_end}
use borrow.Author.Rules.{rules}
use Rattle.figures.proofs.put_all.Goals as goal

pub loop-number-init : goal.loop-number-init
loop-number-init c = filled_none _ _

pub loop-number-preserved : goal.loop-number-preserved
loop-number-preserved c =
    let long : length c.args.numbers ≡ 22 = search rules in
    filled_next _ _ _ _ _ (omega (arith, long, c.loop-number-test.true)) c.loop-number.invariant (omega (arith, c.loop-number.invariant.used_is, length_put c.loop-number.invariant.put, c.loop-number-test.true, c.requires)) _ c.put.ensures

pub returns : goal.returns
returns c =
    let long : length c.args.numbers ≡ 22 = search rules in
    filled_end _ _ 22 _ _ _ c.loop-number.invariant long (omega (arith, c.loop-number.auto.number-index-end, c.loop-number-test.false))
