use mathlib.Core.Path.{sym, ◌∙◌}
use native.Mathlib.Omega.{arith}
use Rattle.nodes.proofs.Lists.{front_end, laid_none, laid_skip, laid_next, laid_end}
use Rattle.nodes.proofs.keep.Goals as goal
use Rattle.nodes.proofs.keep.Goals.{then-passes, else-passes}

pub loop-place-init : goal.loop-place-init
loop-place-init g c = (omega arith, λ p t. laid_none p _)

pub loop-place-preserved : goal.loop-place-preserved
loop-place-preserved g c =
    elim c.if-passes.branch [
      | then-passes w ↦ (
        omega (arith, c.loop-place.invariant.0, w.n-is),
        λ p t. rw (w.kept-is, w.n-is)
            (laid_next p _ _ _ _ (omega (arith, c.loop-place-test.true, c.requires.fits)) (sym (t _ _ (omega (arith, c.type_inv.places c.loop-place.place-index)) c.passes.ensures) ∙ w.if-passes.true) (c.loop-place.invariant.1 p t)),
      )
      | else-passes w ↦ (
        omega (arith, c.loop-place.invariant.0, w.n-is),
        λ p t. rw (w.kept-is, w.n-is)
            (laid_skip p _ _ _ _ (sym (t _ _ (omega (arith, c.type_inv.places c.loop-place.place-index)) c.passes.ensures) ∙ w.if-passes.false) (c.loop-place.invariant.1 p t)),
      )
    ]

pub returns : goal.returns
returns g c = λ p t.
    laid_end p _ _ _ _ (c.loop-place.invariant.1 p t) (front_end _ _ c.loop-place.auto.place-index-end c.loop-place-test.false)
