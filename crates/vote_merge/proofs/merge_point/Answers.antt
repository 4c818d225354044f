use mathlib.Core.List.{List, []}
use mathlib.Core.Path.{refl, sym, ap, subst, ◌∙◌}
use Prim.Native.Nat.{ℕ, ◌<◌, pred}
use native.Mathlib.Omega.{arith}
use lib.ListN.{length}
use Rattle.sizes.specs.Sizes.{BLOCKS}
use Rattle.loops.specs.Listing.{keep}
use Rattle.loops.proofs.Listings.{length_front}
use Rattle.graph.specs.Ghost.{under, meets, merge}
use Rattle.nodes.specs.Nodes.{col, row, placed}
use Rattle.vote_merge.specs.Merges.{Lower}
use Rattle.nodes.proofs.Lists.{placed_front}
use Rattle.vote_merge.proofs.Meetings.{meets_few, merge_ends, merge_goes}
use Rattle.vote_merge.proofs.Lowers.{lower_kept, kept_few, meets_past}
use borrow.Author.Rules.{rules}
use Rattle.vote_merge.proofs.merge_point.Goals as goal

pub loop-left-init : goal.loop-left-init
loop-left-init g c = (search rules, c.requires.1, c.requires.2, BLOCKS, search rules, refl)

pub returns-then-child-eq0 : goal.returns-then-child-eq0
returns-then-child-eq0 g c =
    let met = c.meets-child.ensures ∙ ap (meets (col c.args.parents.now) (row c.args.rows.now) (g.Q.Asks.asks c.args.question.now) c.loop-left.best []) c.as_slice-places.ensures in
    sym (c.loop-left.invariant.5 ∙ merge_ends _ _ _ _ _ _ (omega (arith, c.loop-left.invariant.0, c.loop-left.invariant.4)) (sym met ∙ c.if-child-eq0.true))

pub strictly_below-fewer-requires : goal.strictly_below-fewer-requires
strictly_below-fewer-requires g c = (
  c.requires.0,
  omega (arith, ap length c.as_slice-places.ensures, length_front c.loop-left.left.count c.loop-left.left.places, c.loop-left.invariant.1),
)

pub loop-left-smaller : goal.loop-left-smaller
loop-left-smaller g c =
    let met = c.meets-child.ensures ∙ ap (meets (col c.args.parents.now) (row c.args.rows.now) (g.Q.Asks.asks c.args.question.now) c.loop-left.best []) c.as_slice-places.ensures in
    let past : c.loop-left.best < c.meets-child.result = meets_past c.args.parents.now c.requires.0 _ _ _ _ c.loop-left.invariant.2 _ met c.if-child-eq0.false in
    omega (arith, c.loop-left.invariant.0)

pub loop-left-preserved : goal.loop-left-preserved
loop-left-preserved g c =
    let ps = c.args.parents.now in
    let met = c.meets-child.ensures ∙ ap (meets (col ps) (row c.args.rows.now) (g.Q.Asks.asks c.args.question.now) c.loop-left.best []) c.as_slice-places.ensures in
    let kept = c.strictly_below-fewer.ensures ∙ ap (λ (l : List ℕ). placed (keep (under (col ps) c.meets-child.result) l)) c.as_slice-places.ensures in
    let here = placed_front _ _ kept in
    let past : c.loop-left.best < c.meets-child.result = meets_past ps c.requires.0 _ _ _ _ c.loop-left.invariant.2 _ met c.if-child-eq0.false in (
      search rules,
      omega (arith, kept_few _ _ _ _ kept, c.loop-left.invariant.1),
      subst (Lower ps _) (sym here) (lower_kept ps _ _),
      pred c.loop-left.invariant.3,
      omega (arith, c.loop-left.invariant.4),
      c.loop-left.invariant.5
          ∙ merge_goes _ _ _ _ _ _ (omega (arith, c.loop-left.invariant.0, c.loop-left.invariant.4)) _ met c.if-child-eq0.false
          ∙ ap (merge _ _ _ _ _) (sym here),
    )

pub returns : goal.returns
returns g c =
    sym (c.loop-left.invariant.5 ∙ merge_ends _ _ _ _ _ _ (omega (arith, c.loop-left.invariant.0, c.loop-left.invariant.4))
    (meets_few _ _ _ _ _ (omega (arith, length_front c.loop-left.left.count c.loop-left.left.places, c.loop-left-test.false))))
