use mathlib.Core.Bool.{false}
use mathlib.Core.Path.{◌≡◌, sym, ap, subst, ◌∙◌}
use Prim.Native.Nat.{ℕ, ◌<◌, ◌≤◌}
use native.Mathlib.Omega.{arith}
use lib.ListN.{get_or}
use Rattle.nodes.proofs.Lists.{front_end}
use Rattle.containing.proofs.Search.{way_start, way_off, way_met, way_up, way_bare, way_hit, between_start, between_same, between_more, between_end}
use Rattle.containing.proofs.find_containing_nodes.Goals as goal

pub next-init : goal.next-init
next-init c = λ falls. between_start _ _ falls _ _

pub loop-node-init : goal.loop-node-init
loop-node-init c = λ falls. (c.next.invariant falls, way_start _ _ falls _ _ _ _ (c.next.invariant falls).marks)

pub next-preserved-then-node-block : goal.next-preserved-then-node-block
next-preserved-then-node-block c = λ falls.
    let i = c.loop-node.invariant falls in
    between_same _ _ falls _ _ _ _ _ _ _ i.0 (way_off _ _ falls _ _ _ _ _ i.1 c.if-node-block.true)

pub next-preserved-then-visited-at : goal.next-preserved-then-visited-at
next-preserved-then-visited-at c = λ falls.
    let i = c.loop-node.invariant falls in
    between_same _ _ falls _ _ _ _ _ _ _ i.0
    (way_met _ _ falls _ _ _ _ _ i.1 (ap (λ (x : ℕ). get_or c.loop-node.visited x false) (sym c.wide-at.ensures.0) ∙ c.if-visited-at.true))

pub loop-node-smaller : goal.loop-node-smaller
loop-node-smaller c = omega (arith, c.requires.1 c.wide-at.result, c.wide-at.ensures.0, c.if-node-block.false)

pub loop-node-preserved : goal.loop-node-preserved
loop-node-preserved c =
    let e : c.wide-at.result ≡ c.loop-node.node = c.wide-at.ensures.0 in
    λ falls. (
      (c.loop-node.invariant falls).0,
      rw e
          (way_up _ _ falls _ _ _ _ _ (c.loop-node.invariant falls).1 (omega (arith, e, c.wide-at.ensures.1))
          (ap (λ (x : ℕ). get_or c.loop-node.visited x false) (sym e) ∙ c.if-visited-at.false) c.if-node-block.false
          (subst (λ (x : ℕ). c.args.block < get_or c.args.above.now x 0) e c.if-block-over.true)),
    )

pub next-preserved-then-not-reaches : goal.next-preserved-then-not-reaches
next-preserved-then-not-reaches c =
    let e : c.wide-at.result ≡ c.loop-node.node = c.wide-at.ensures.0 in
    λ falls. rw e
    (between_same _ _ falls _ _ _ _ _ _ _ (c.loop-node.invariant falls).0
    (way_bare _ _ falls _ _ _ _ _ (c.loop-node.invariant falls).1 (omega (arith, e, c.wide-at.ensures.1))
    (ap (λ (x : ℕ). get_or c.loop-node.visited x false) (sym e) ∙ c.if-visited-at.false) c.if-node-block.false
    (subst (λ (x : ℕ). get_or c.args.above.now x 0 ≤ c.args.block) e c.if-block-over.false)
    (sym c.reaches.ensures ∙ c.if-not-reaches.true)))

pub bounds-places-count : goal.bounds-places-count
bounds-places-count c = omega (arith, (c.loop-node.invariant c.requires.1).0.few, c.next-test.true, c.requires.2)

pub overflow_add-count : goal.overflow_add-count
overflow_add-count c = omega (arith, (c.loop-node.invariant c.requires.1).0.few, c.next-test.true, c.requires.2)

pub next-preserved : goal.next-preserved
next-preserved c =
    let e : c.wide-at.result ≡ c.loop-node.node = c.wide-at.ensures.0 in
    λ falls. rw e
    (between_more _ _ falls _ _ _ _ _ _ _ _ (omega (arith, c.next-test.true, c.requires.2)) (c.loop-node.invariant falls).0
    (way_hit _ _ falls _ _ _ _ _ (c.loop-node.invariant falls).1 (omega (arith, e, c.wide-at.ensures.1))
    (ap (λ (x : ℕ). get_or c.loop-node.visited x false) (sym e) ∙ c.if-visited-at.false) c.if-node-block.false
    (subst (λ (x : ℕ). get_or c.args.above.now x 0 ≤ c.args.block) e c.if-block-over.false)
    (sym c.reaches.ensures ∙ c.if-not-reaches.false)))

pub returns : goal.returns
returns c =
    between_end _ _ c.requires.1 _ _ _ _ _ _ (c.next.invariant c.requires.1) (front_end _ _ c.next.auto.head-index-end c.next-test.false)
