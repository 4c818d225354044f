use mathlib.Core.Path.{sym, ap, subst, ◌∙◌}
use Prim.Native.Nat.{◌<◌, pred}
use native.Mathlib.Omega.{arith}
use Rattle.sizes.specs.Sizes.{BLOCKS}
use Rattle.graph.specs.Ghost.{first_in, settle}
use Rattle.nodes.specs.Nodes.{col, row}
use Rattle.vote_merge.specs.Merges.{Lower}
use Rattle.std.proofs.lemmas.List.{length-take-le}
use Rattle.nodes.proofs.Lists.{placed_front}
use Rattle.vote_merge.proofs.Turns.{first_listed}
use Rattle.vote_merge.proofs.Lowers.{lower_past}
use Rattle.nodes.proofs.Tied.{listed_is}
use Rattle.vote_search.proofs.Descents.{listed_as, listed_few, followed_few, settle_ends, settle_goes, followed_is, lower_following, lower_children, following_unheaded, children_unheaded}
use borrow.Author.Rules.{rules}
use Rattle.vote_search.proofs.descend.Goals as goal

pub loop-nodes-init : goal.loop-nodes-init
loop-nodes-init g c =
    let s = c.requires.3.sound in
    let here = placed_front _ _ c.following-follow.ensures ∙ followed_is _ _ _ _ _ s _ in (
      search rules,
      omega (arith, followed_few _ _ _ _ _ _ _ c.following-follow.ensures, s.listed_fits),
      subst (Lower c.args.parents.now _) (sym here) (lower_following _ _ _ _ _ s _),
      BLOCKS,
      search rules,
      ap (settle _ _ _ _ _) (following_unheaded _ _ _ _ _ s _ ∙ sym here),
    )

pub children-next-requires : goal.children-next-requires
children-next-requires g c =
    let s = c.requires.3.sound in
    omega (arith, length-take-le c.args.listed c.args.order.now (omega (arith, s.listed_fits, c.told-order)), s.listed_fits)

pub returns-then-child-eq0 : goal.returns-then-child-eq0
returns-then-child-eq0 g c =
    let first = c.first_passing-child.ensures ∙ ap (first_in (λ n. g.Q.Asks.asks c.args.question.now (row c.args.rows.now n))) c.as_slice.ensures in
    c.merge_point.ensures
    ∙ sym (c.loop-nodes.invariant.5 ∙ settle_ends _ _ _ _ _ _ (omega (arith, c.loop-nodes.invariant.0, c.loop-nodes.invariant.4)) _ first c.if-child-eq0.true)

pub loop-nodes-smaller : goal.loop-nodes-smaller
loop-nodes-smaller g c =
    let first = c.first_passing-child.ensures ∙ ap (first_in (λ n. g.Q.Asks.asks c.args.question.now (row c.args.rows.now n))) c.as_slice.ensures in
    let past : c.loop-nodes.last < c.first_passing-child.result
    = lower_past c.args.parents.now c.requires.3.sound.parents_fall _ _ _ c.loop-nodes.invariant.2 (first_listed _ _ _ first c.if-child-eq0.false) in
    omega (arith, c.loop-nodes.invariant.0)

pub loop-nodes-preserved : goal.loop-nodes-preserved
loop-nodes-preserved g c =
    let s = c.requires.3.sound in
    let first = c.first_passing-child.ensures ∙ ap (first_in (λ n. g.Q.Asks.asks c.args.question.now (row c.args.rows.now n))) c.as_slice.ensures in
    let listed =
    listed_as (col c.args.above.now) c.args.listed c.args.order.now (omega (arith, s.listed_fits, c.told-order)) c.first_passing-child.result c.children-next.result c.children-next.ensures in
    let here = placed_front _ _ listed ∙ listed_is _ _ _ _ _ s _ in
    let past : c.loop-nodes.last < c.first_passing-child.result
    = lower_past c.args.parents.now s.parents_fall _ _ _ c.loop-nodes.invariant.2 (first_listed _ _ _ first c.if-child-eq0.false) in (
      search rules,
      omega (arith, listed_few _ _ _ _ _ listed, s.listed_fits),
      subst (Lower c.args.parents.now _) (sym here) (lower_children _ _ _ _ _ s _),
      pred c.loop-nodes.invariant.3,
      omega (arith, c.loop-nodes.invariant.4),
      c.loop-nodes.invariant.5
          ∙ settle_goes _ _ _ _ _ _ (omega (arith, c.loop-nodes.invariant.0, c.loop-nodes.invariant.4)) _ first c.if-child-eq0.false
          ∙ ap (settle _ _ _ _ _) (children_unheaded _ _ _ _ _ s _ ∙ sym here),
    )
