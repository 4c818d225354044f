use mathlib.Core.Path.{sym}
use native.Mathlib.Omega.{arith}
use Rattle.two_views.proofs.Turns.{apart_twice, apart_twice_there, apart_silent, apart_unheard, apart_both}
use Rattle.two_views.proofs.differs.Goals as goal

pub returns-then-counts-at-gt1 : goal.returns-then-counts-at-gt1
returns-then-counts-at-gt1 c = sym (apart_twice c.args.counts.now c.args.first_block.now c.args.others.now c.args.theirs.now c.args.at c.if-counts-at-gt1.true)

pub returns-then-others-at-gt1 : goal.returns-then-others-at-gt1
returns-then-others-at-gt1 c = sym (apart_twice_there c.args.counts.now c.args.first_block.now c.args.others.now c.args.theirs.now c.args.at c.if-counts-at-gt1.false c.if-others-at-gt1.true)

pub returns-then-counts-at-eq0 : goal.returns-then-counts-at-eq0
returns-then-counts-at-eq0 c = sym (apart_silent c.args.counts.now c.args.first_block.now c.args.others.now c.args.theirs.now c.args.at c.if-counts-at-eq0.true c.if-others-at-gt1.false)

pub returns-then-others-at-eq0 : goal.returns-then-others-at-eq0
returns-then-others-at-eq0 c = sym (apart_unheard c.args.counts.now c.args.first_block.now c.args.others.now c.args.theirs.now c.args.at c.if-counts-at-gt1.false c.if-others-at-eq0.true)

pub returns : goal.returns
returns c = sym (apart_both c.args.counts.now c.args.first_block.now c.args.others.now c.args.theirs.now c.args.at (omega arith) (omega arith))
