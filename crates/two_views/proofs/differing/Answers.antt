use mathlib.Core.Path.{sym, ap, ◌∙◌}
use native.Mathlib.Nat.{le_antisymm}
use native.Mathlib.Omega.{arith}
use Rattle.two_views.specs.Views.{differing}
use Rattle.two_views.proofs.Turns.{differing_none, differing_skip, differing_more}
use Rattle.two_views.proofs.differing.Goals.{then-differs, else-differs}
use Rattle.two_views.proofs.differing.Goals as goal

pub loop-voter-init : goal.loop-voter-init
loop-voter-init c = (omega arith, omega arith, differing_none c.args.counts.now c.args.first_block.now c.args.others.now c.args.theirs.now c.args.weights.now)

pub index-at-requires : goal.index-at-requires
index-at-requires c = omega (arith, c.loop-voter-test.true, c.requires)

pub differs-requires : goal.differs-requires
differs-requires c = c.index-at.ensures.1

pub loop-voter-preserved : goal.loop-voter-preserved
loop-voter-preserved c =
    elim c.if-differs.branch [
      | then-differs w ↦ (
        omega arith,
        omega (arith, w.sum-is, w.saturating_add-sum.ensures),
        w.sum-is ∙ (w.saturating_add-sum.ensures
            ∙ rw c.loop-voter.invariant.2 (differing_more _ _ _ _ _ _ (rw (← c.index-at.ensures.0) (sym c.differs.ensures ∙ w.if-differs.true)))),
      )
      | else-differs w ↦ (
        omega arith,
        omega (arith, w.sum-is, c.loop-voter.invariant.1),
        w.sum-is ∙ (c.loop-voter.invariant.2
            ∙ differing_skip _ _ _ _ _ _ (rw (← c.index-at.ensures.0) (sym c.differs.ensures ∙ w.if-differs.false))),
      )
    ]

pub returns : goal.returns
returns c = let e = le_antisymm c.loop-voter.invariant.0 c.loop-voter-test.false in c.loop-voter.invariant.2 ∙ ap (differing _ _ _ _ _) e
