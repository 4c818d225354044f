use mathlib.Core.Path.{sym, ap, ◌∙◌}
use mathlib.Core.List.{[], ◌∷◌, ◌++◌}
use Prim.Native.Nat.{ℕ}
use lib.ListN.{get_or}
use Rattle.bitfield.specs.Bits.{joined}
use Rattle.graph.specs.Ghost.{meets}
use Rattle.nodes.specs.Nodes.{col, row}
use Rattle.vote_merge.proofs.Turns.{whole_rest, rest_next, rest_end}
use Rattle.vote_merge.proofs.Meetings.{kept_none, kept_more, meets_child, meets_first, meets_here, meets_on, meets_end}
use Rattle.vote_merge.proofs.meets.Goals as goal

pub loop-place-init : goal.loop-place-init
loop-place-init g c = ([], kept_none _ _ _, ap (meets _ _ _ _ []) (whole_rest _))

pub loop-place-preserved-then-node-child : goal.loop-place-preserved-then-node-child
loop-place-preserved-then-node-child g c = (
  c.loop-place.invariant.0,
  c.loop-place.invariant.1,
  c.loop-place.invariant.2 ∙ ap (meets _ _ _ _ c.loop-place.invariant.0) (rest_next _ _ _ c.loop-place-test.true) ∙ meets_child _ _ _ _ _ _ _ (c.if-node-child.true ∙ c.towards-child.ensures),
)

pub loop-place-preserved-then-not-met : goal.loop-place-preserved-then-not-met
loop-place-preserved-then-not-met g c =
    let ps = c.args.parents.now in
    let rows = c.args.rows.now in
    let goes = c.wide-at.ensures.0 ∙ c.towards-child.ensures in
    let joins = c.merge-bits.ensures ∙ ap (λ (j : ℕ). joined (get_or c.loop-place.joined c.wide-at.result []) (row rows j)) c.wide-from.ensures.0 in (
      c.loop-place.invariant.0 ++ (get_or c.args.places.now c.loop-place.place-index 0 ∷ []),
      kept_more (col ps) (row rows) _ _ _ _ c.loop-place.invariant.1 _ _ c.wide-at.ensures.1 goes _ joins,
      c.loop-place.invariant.2 ∙ ap (meets _ _ _ _ c.loop-place.invariant.0) (rest_next _ _ _ c.loop-place-test.true)
          ∙ meets_first (col ps) (row rows) _ _ _ _ c.loop-place.invariant.1 _ _ c.wide-at.ensures.1 goes _ joins _ _ (λ q. c.if-node-child.false (q ∙ c.wide-at.ensures.0)) (c.if-not-met.true),
    )

pub returns-then-passes : goal.returns-then-passes
returns-then-passes g c =
    let ps = c.args.parents.now in
    let rows = c.args.rows.now in
    let goes = c.wide-at.ensures.0 ∙ c.towards-child.ensures in
    let joins = c.merge-bits.ensures ∙ ap (λ (j : ℕ). joined (get_or c.loop-place.joined c.wide-at.result []) (row rows j)) c.wide-from.ensures.0 in
    sym c.wide-at.ensures.0 ∙ sym (c.loop-place.invariant.2 ∙ ap (meets _ _ _ _ c.loop-place.invariant.0) (rest_next _ _ _ c.loop-place-test.true)
    ∙ meets_here (col ps) (row rows) _ _ _ _ c.loop-place.invariant.1 _ _ c.wide-at.ensures.1 goes _ joins _ _ (λ q. c.if-node-child.false (q ∙ c.wide-at.ensures.0)) (c.if-not-met.false) (sym c.passes.ensures ∙ c.if-passes.true))

pub loop-place-preserved : goal.loop-place-preserved
loop-place-preserved g c =
    let ps = c.args.parents.now in
    let rows = c.args.rows.now in
    let goes = c.wide-at.ensures.0 ∙ c.towards-child.ensures in
    let joins = c.merge-bits.ensures ∙ ap (λ (j : ℕ). joined (get_or c.loop-place.joined c.wide-at.result []) (row rows j)) c.wide-from.ensures.0 in (
      c.loop-place.invariant.0 ++ (get_or c.args.places.now c.loop-place.place-index 0 ∷ []),
      kept_more (col ps) (row rows) _ _ _ _ c.loop-place.invariant.1 _ _ c.wide-at.ensures.1 goes _ joins,
      c.loop-place.invariant.2 ∙ ap (meets _ _ _ _ c.loop-place.invariant.0) (rest_next _ _ _ c.loop-place-test.true)
          ∙ meets_on (col ps) (row rows) _ _ _ _ c.loop-place.invariant.1 _ _ c.wide-at.ensures.1 goes _ joins _ _ (λ q. c.if-node-child.false (q ∙ c.wide-at.ensures.0)) (c.if-not-met.false) (sym c.passes.ensures ∙ c.if-passes.false),
    )

pub returns : goal.returns
returns g c = sym (c.loop-place.invariant.2 ∙ ap (meets _ _ _ _ c.loop-place.invariant.0) (rest_end _ _ _ c.loop-place-test.false) ∙ meets_end _ _ _ _ _)
