use mathlib.Core.Path.{sym, ◌∙◌}
use Prim.Native.Nat.{◌<◌}
use native.Mathlib.Omega.{arith}
use lib.Seq.{length-take-le}
use Rattle.feeding.proofs.Goes.{rest_means, run_short, run_stands, joint_bytes, joint_inside, went_over, went_short, across_fits, across_done}
use Rattle.feeding.proofs.across.Goals as goal

pub join-joint-requires : goal.join-joint-requires
join-joint-requires c = (rest_means c.args.rest c.requires.1).0

pub slice_bounds-both-end : goal.slice_bounds-both-end
slice_bounds-both-end c = joint_inside _ _ c.join-joint.ensures.0

pub slice_bounds-bytes-end : goal.slice_bounds-bytes-end
slice_bounds-bytes-end c = sym (length-take-le _ _ (joint_inside _ _ c.join-joint.ensures.0))

pub run-first-requires : goal.run-first-requires
run-first-requires c = c.requires.0

pub after-requires : goal.after-requires
after-requires c = (c.run-first.ensures.1.0, run_short _ _ c.run-first.result c.run-first.ensures.0)

pub returns-then-first-eq0 : goal.returns-then-first-eq0
returns-then-first-eq0 c = c.after.ensures ∙ went_short c.args.journal c.args.rest c.requires.1 _ _ _ (joint_bytes _ _ c.join-joint.ensures.0) c.run-first.result c.run-first.ensures.0 c.run-first.ensures.1.0 c.in-Cut.is c.if-first-eq0.true

pub overflow_sub-part : goal.overflow_sub-part
overflow_sub-part c =
    let s : 0 < c.run-first.result.count = omega (arith, c.if-first-eq0.false) in
    omega (arith, (across_fits c.args.journal c.args.rest c.join-joint.ensures.1 c.requires.1 0 c.args.piece.now _ (joint_bytes _ _ c.join-joint.ensures.0) c.run-first.result c.run-first.ensures.0 c.run-first.ensures.1.0 c.in-Cut.is s).0)

pub slice_bounds-part-start : goal.slice_bounds-part-start
slice_bounds-part-start c =
    let s : 0 < c.run-first.result.count = omega (arith, c.if-first-eq0.false) in
    omega (arith, (across_fits c.args.journal c.args.rest c.join-joint.ensures.1 c.requires.1 0 c.args.piece.now _ (joint_bytes _ _ c.join-joint.ensures.0) c.run-first.result c.run-first.ensures.0 c.run-first.ensures.1.0 c.in-Cut.is s).1)

pub slice_bounds-part-count : goal.slice_bounds-part-count
slice_bounds-part-count c =
    let s : 0 < c.run-first.result.count = omega (arith, c.if-first-eq0.false) in
    omega (arith, (across_fits c.args.journal c.args.rest c.join-joint.ensures.1 c.requires.1 0 c.args.piece.now _ (joint_bytes _ _ c.join-joint.ensures.0) c.run-first.result c.run-first.ensures.0 c.run-first.ensures.1.0 c.in-Cut.is s).1)

pub run-requires : goal.run-requires
run-requires c = run_stands _ _ c.run-first.result c.run-first.ensures.0 c.requires.0

pub after-requires-in-Cut : goal.after-requires-in-Cut
after-requires-in-Cut c = (c.run.ensures.1.0, run_short _ _ c.run.result c.run.ensures.0)

pub after-requires-in-Refused : goal.after-requires-in-Refused
after-requires-in-Refused c = (c.run-first.ensures.1.0, run_short _ _ c.run-first.result c.run-first.ensures.0)

pub returns-else-first-eq0 : goal.returns-else-first-eq0
returns-else-first-eq0 c =
    let s : 0 < c.run-first.result.count = omega (arith, c.if-first-eq0.false) in
    c.after-in-Cut.ensures ∙ across_done c.args.journal c.args.rest c.join-joint.ensures.1 c.requires.1 _ c.args.piece.now _ (joint_bytes _ _ c.join-joint.ensures.0) c.run-first.result c.run-first.ensures.0 c.run-first.ensures.1.0 c.in-Cut.is s _ c.more.ensures c.run.result c.run.ensures.0

pub returns-in-Refused : goal.returns-in-Refused
returns-in-Refused c = c.after-in-Refused.ensures ∙ went_over c.args.journal c.args.rest c.requires.1 _ _ _ (joint_bytes _ _ c.join-joint.ensures.0) c.run-first.result c.run-first.ensures.0 c.run-first.ensures.1.0 c.in-Refused.is
