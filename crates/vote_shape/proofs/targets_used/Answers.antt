use mathlib.Core.Path.{◌≡◌, sym, ◌∙◌}
use native.Mathlib.Omega.{arith}
use lib.ListN.{length, length-append}
use Rattle.sizes.specs.Sizes.{VOTES}
use Rattle.std.proofs.lemmas.Slice.Zip.{zip_turn, zip_end}
use Rattle.loops.proofs.Alls.{all_none, all_more, all_false}
use Rattle.vote_shape.specs.Voted.{targets_used}
use Rattle.vote_shape.proofs.targets_used.Goals as goal

pub loop-n-init : goal.loop-n-init
loop-n-init c = all_none _

pub bounds-used-wide : goal.bounds-used-wide
bounds-used-wide c = c.wide.ensures.1

pub returns-then-not-is_used : goal.returns-then-not-is_used
unfolding targets_used
returns-then-not-is_used c =
    let z = zip_turn c.args.counts.now c.args.first_block.now c.loop-n.yielded c.into_iter-n-iterator.result c.loop-n.n-iterator c.next.new.self _ (cc) (cc) c.loop-n.yielded_by _ c.in-Some.is c.next.ensures.steps in
    sym (all_false _ _ _ (omega (arith, z.0)) (rw (c.wide.ensures.0, z.2 0, z.3 0) at (sym c.is_used.ensures ∙ c.if-not-is_used.true)))

pub loop-n-preserved : goal.loop-n-preserved
loop-n-preserved c =
    let z = zip_turn c.args.counts.now c.args.first_block.now c.loop-n.yielded c.into_iter-n-iterator.result c.loop-n.n-iterator c.next.new.self _ (cc) (cc) c.loop-n.yielded_by _ c.in-Some.is c.next.ensures.steps in
    rw length-append (all_more _ _ c.loop-n.invariant (rw (c.wide.ensures.0, z.2 0, z.3 0) at (sym c.is_used.ensures ∙ c.if-not-is_used.false)))

pub returns : goal.returns
unfolding targets_used
returns c =
    let z = zip_end c.args.counts.now c.args.first_block.now c.loop-n.yielded c.into_iter-n-iterator.result c.loop-n.n-iterator c.next.new.self _ (cc) (cc) c.loop-n.yielded_by c.in-None.is c.next.ensures.steps in
    let e : length c.loop-n.yielded ≡ VOTES = omega (arith, z) in
    sym (rw e at c.loop-n.invariant)
