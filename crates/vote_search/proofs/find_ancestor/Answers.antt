use mathlib.Core.Path.{◌≡◌, refl, sym, ◌∙◌}
use native.Mathlib.Omega.{arith}
use Rattle.grandpa.proofs.Trees.{below_le, below_step}
use Rattle.vote_search.proofs.Ancestors.{ancestor_none, ancestor_here, ancestor_base, ancestor_up}
use Rattle.vote_search.proofs.find_ancestor.Goals as goal

pub loop-bits-init : goal.loop-bits-init
loop-bits-init g c = (c.requires.2.in_base, refl)

pub loop-bits-smaller : goal.loop-bits-smaller
loop-bits-smaller g c =
    let s = c.requires.2.sound in
    omega (arith, s.parents_fall c.wide.result, c.wide.ensures.0, below_le _ s.parents_fall _ _ c.loop-bits.invariant.0, c.if-at-base.false)

pub loop-bits-preserved : goal.loop-bits-preserved
loop-bits-preserved g c =
    let s = c.requires.2.sound in
    let e : c.wide.result ≡ c.loop-bits.at = c.wide.ensures.0 in
    rw e (
      below_step _ s.parents_fall _ _ c.loop-bits.invariant.0 (λ q. c.if-at-base.false (sym q)),
      c.loop-bits.invariant.1
          ∙ ancestor_up _ _ _ _ _ s _ _ c.loop-bits.invariant.0 _ c.cumulative_vote.ensures _ c.in-Some.is (sym c.passes.ensures ∙ c.if-passes.false) c.if-at-base.false,
    )

pub returns-in_default : goal.returns-in_default
returns-in_default g c =
    sym ((c.loop-bits.invariant.1 ∙ ancestor_none _ _ _ _ _ c.requires.2.sound _ _ c.loop-bits.invariant.0 _ c.cumulative_vote.ensures c.in_default.is))

pub returns-then-passes : goal.returns-then-passes
returns-then-passes g c =
    sym ((c.loop-bits.invariant.1
    ∙ ancestor_here _ _ _ _ _ c.requires.2.sound _ _ c.loop-bits.invariant.0 _ c.cumulative_vote.ensures _ c.in-Some.is (sym c.passes.ensures ∙ c.if-passes.true)))

pub returns-then-at-base : goal.returns-then-at-base
returns-then-at-base g c =
    sym ((c.loop-bits.invariant.1
    ∙ ancestor_base _ _ _ _ _ c.requires.2.sound _ _ c.loop-bits.invariant.0 _ c.cumulative_vote.ensures _ c.in-Some.is (sym c.passes.ensures ∙ c.if-passes.false) c.if-at-base.true))
