use mathlib.Core.Path.{◌≡◌, refl, sym, ap, ◌∙◌}
use Prim.Native.Nat.{ℕ}
use native.Mathlib.Omega.{arith}
use lib.Dec.{eqb}
use lib.ListN.{get_or}
use borrow.Author.Tests.{eq-eqb, ne_eqb}
use Rattle.graph.specs.Ghost.{towards}
use Rattle.graph.proofs.Climbs.{until_here, until_next, until_root}
use Rattle.climbs.specs.Places.{col}
use borrow.Author.Rules.{rules}
use Rattle.climbs.proofs.towards.Goals as goal

pub loop-at-init : goal.loop-at-init
loop-at-init c = (search rules, refl)

pub bounds-parents-wide : goal.bounds-parents-wide
bounds-parents-wide c = c.wide.ensures.1

pub returns-then-over-block : goal.returns-then-over-block
unfolding towards
returns-then-over-block c =
    let b = c.args.block in
    let ps = c.args.parents.now in
    sym (c.loop-at.invariant.1
    ∙ until_here (col ps) c.requires (λ x. eqb (get_or ps x 0) b) c.loop-at.at
    (eq-eqb _ _ (ap (col ps) (sym c.wide.ensures.0) ∙ c.if-over-block.true)))

pub loop-at-smaller : goal.loop-at-smaller
loop-at-smaller c = omega (arith, c.requires c.wide.result, c.wide.ensures.0, c.loop-at-test.true)

pub loop-at-preserved : goal.loop-at-preserved
unfolding towards
loop-at-preserved c =
    let b = c.args.block in
    let ps = c.args.parents.now in (
      omega (arith, c.requires c.wide.result, c.wide.ensures.1),
      c.loop-at.invariant.1
          ∙ until_next (col ps) c.requires (λ x. eqb (get_or ps x 0) b) c.loop-at.at c.loop-at-test.true
          (ne_eqb _ _ (λ e. c.if-over-block.false (ap (col ps) c.wide.ensures.0 ∙ e)))
          ∙ ap (λ (x : ℕ). towards (col ps) b (get_or ps x 0)) (sym c.wide.ensures.0),
    )

pub returns : goal.returns
unfolding towards
returns c =
    let b = c.args.block in
    let ps = c.args.parents.now in
    let z : c.loop-at.at ≡ 0 = omega (arith, c.loop-at-test.false) in
    z ∙ sym (c.loop-at.invariant.1 ∙ ap (towards (col ps) b) z ∙ until_root (col ps) c.requires (λ x. eqb (get_or ps x 0) b))
