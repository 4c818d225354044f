use mathlib.Core.Bool.{false}
use mathlib.Core.List.{[]}
use mathlib.Core.Path.{◌≡◌, sym, ◌∙◌}
use native.Mathlib.Omega.{arith}
use lib.ListN.{length, length-append}
use Rattle.sizes.specs.Sizes.{BLOCKS}
use Rattle.std.proofs.lemmas.Slice.Zip.{zip_turn, zip_end}
use Rattle.loops.proofs.Alls.{all_none, all_more, all_false}
use Rattle.graph_lists.specs.Listed.{bare}
use Rattle.graph_lists.proofs.bare.Goals as goal

pub loop-node-init : goal.loop-node-init
loop-node-init c = all_none _

pub returns-then-not-is_bare : goal.returns-then-not-is_bare
unfolding bare
returns-then-not-is_bare c =
    let z = zip_turn c.args.used.now c.args.rows.now c.loop-node.yielded c.into_iter-node-iterator.result c.loop-node.node-iterator c.next.new.self _ (cc) (cc) c.loop-node.yielded_by _ c.in-Some.is c.next.ensures.steps in
    sym (all_false _ _ _ (omega (arith, z.0)) (rw (z.2 false, z.3 []) at (sym c.is_bare.ensures ∙ c.if-not-is_bare.true)))

pub loop-node-preserved : goal.loop-node-preserved
loop-node-preserved c =
    let z = zip_turn c.args.used.now c.args.rows.now c.loop-node.yielded c.into_iter-node-iterator.result c.loop-node.node-iterator c.next.new.self _ (cc) (cc) c.loop-node.yielded_by _ c.in-Some.is c.next.ensures.steps in
    rw length-append (all_more _ _ c.loop-node.invariant (rw (z.2 false, z.3 []) at (sym c.is_bare.ensures ∙ c.if-not-is_bare.false)))

pub returns : goal.returns
unfolding bare
returns c =
    let z = zip_end c.args.used.now c.args.rows.now c.loop-node.yielded c.into_iter-node-iterator.result c.loop-node.node-iterator c.next.new.self _ (cc) (cc) c.loop-node.yielded_by c.in-None.is c.next.ensures.steps in
    let e : length c.loop-node.yielded ≡ BLOCKS = omega (arith, z) in
    sym (rw e at c.loop-node.invariant)
