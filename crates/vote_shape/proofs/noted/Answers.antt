use mathlib.Core.Path.{◌≡◌, sym, ◌∙◌}
use native.Mathlib.Omega.{arith}
use lib.ListN.{length, length-append}
use Rattle.sizes.specs.Sizes.{VOTES}
use Rattle.std.proofs.lemmas.Slice.Zip.{zip_turn, zip_end}
use Rattle.vote_shape.proofs.Marks.{marked_is, base_marked, silent_marked, target_marked}
use Rattle.vote_shape.proofs.noted.Goals as goal

pub bounds-marks-wide : goal.bounds-marks-wide
bounds-marks-wide c = omega (arith, c.wide.ensures.1)

pub loop-n-init : goal.loop-n-init
loop-n-init c = base_marked c.args.base c.args.counts.now c.args.first_block.now _ c.wide.ensures.0 c.wide.ensures.1

pub bounds-marks-wide-then-n-ne0 : goal.bounds-marks-wide-then-n-ne0
bounds-marks-wide-then-n-ne0 c = omega (arith, c.wide-then-n-ne0.ensures.1, c.loop-n.invariant.sized)

pub loop-n-preserved-then-n-ne0 : goal.loop-n-preserved-then-n-ne0
loop-n-preserved-then-n-ne0 c =
    let z = zip_turn c.args.counts.now c.args.first_block.now c.loop-n.yielded c.into_iter-n-iterator.result c.loop-n.n-iterator c.next.new.self _ (cc) (cc) c.loop-n.yielded_by _ c.in-Some.is c.next.ensures.steps in
    rw length-append (target_marked c.args.base c.args.counts.now c.args.first_block.now _ _ _ (rw (z.2 0) at c.if-n-ne0.true) (c.wide-then-n-ne0.ensures.0 ∙ z.3 0) c.wide-then-n-ne0.ensures.1 c.loop-n.invariant)

pub loop-n-preserved : goal.loop-n-preserved
loop-n-preserved c =
    let z = zip_turn c.args.counts.now c.args.first_block.now c.loop-n.yielded c.into_iter-n-iterator.result c.loop-n.n-iterator c.next.new.self _ (cc) (cc) c.loop-n.yielded_by _ c.in-Some.is c.next.ensures.steps in
    rw length-append (silent_marked c.args.base c.args.counts.now c.args.first_block.now _ _ (sym (z.2 0) ∙ c.if-n-ne0.false) c.loop-n.invariant)

pub returns : goal.returns
returns c =
    let z = zip_end c.args.counts.now c.args.first_block.now c.loop-n.yielded c.into_iter-n-iterator.result c.loop-n.n-iterator c.next.new.self _ (cc) (cc) c.loop-n.yielded_by c.in-None.is c.next.ensures.steps in
    let e : length c.loop-n.yielded ≡ VOTES = omega (arith, z) in
    marked_is _ _ _ (rw e at c.loop-n.invariant)
