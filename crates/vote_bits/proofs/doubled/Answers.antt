use native.Mathlib.Omega.{arith}
use mathlib.Core.Path.{◌∙◌}
use borrow.Author.Tests.{lt-ltb, le-ltb}
use Rattle.vote_bits.specs.Told.{doubled}
use Rattle.vote_bits.proofs.Sames.{put_none, put_skip, put_next, put_all}
use borrow.Author.Rules.{rules}
use Rattle.vote_bits.proofs.doubled.Goals as goal

pub loop-j-init : goal.loop-j-init
loop-j-init c = (search rules, put_none _)

pub loop-j-preserved-then-n-le1 : goal.loop-j-preserved-then-n-le1
loop-j-preserved-then-n-le1 c = (omega (arith, c.loop-j-test.true), put_skip _ _ _ (le-ltb _ _ c.if-n-le1.true) c.loop-j.invariant.1)

pub loop-j-preserved : goal.loop-j-preserved
loop-j-preserved c = (omega (arith, c.loop-j-test.true), put_next _ _ _ _ c.loop-j-test.true (lt-ltb _ _ c.if-n-le1.false) c.set_bit-more.ensures c.loop-j.invariant.1)

pub returns : goal.returns
unfolding doubled
returns c = c.same_bits.ensures ∙ put_all _ _ _ _ c.loop-j-test.false c.loop-j.invariant.1
