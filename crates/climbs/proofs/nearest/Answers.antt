use mathlib.Core.Path.{◌≡◌, refl, sym, ap, ◌∙◌}
use Prim.Native.Nat.{ℕ}
use native.Mathlib.Omega.{arith}
use lib.ListN.{get_or}
use Rattle.graph.specs.Search.{nearest}
use Rattle.graph.proofs.Climbs.{until_here, until_next, until_root}
use Rattle.climbs.specs.Places.{col, flag}
use borrow.Author.Rules.{rules}
use Rattle.climbs.proofs.nearest.Goals as goal

pub loop-at-init : goal.loop-at-init
loop-at-init c = (search rules, refl)

pub bounds-used-k : goal.bounds-used-k
bounds-used-k c = c.wide-k.ensures.1

pub returns-then-used-k : goal.returns-then-used-k
unfolding nearest
returns-then-used-k c =
    sym (c.loop-at.invariant.1
    ∙ until_here (col c.args.parents.now) c.requires (flag c.args.used.now) c.loop-at.at
    (ap (flag c.args.used.now) (sym c.wide-k.ensures.0) ∙ c.if-used-k.true))

pub bounds-parents-k : goal.bounds-parents-k
bounds-parents-k c = c.wide-k.ensures.1

pub loop-at-smaller : goal.loop-at-smaller
loop-at-smaller c = omega (arith, c.requires c.wide-k.result, c.wide-k.ensures.0, c.loop-at-test.true)

pub loop-at-preserved : goal.loop-at-preserved
unfolding nearest
loop-at-preserved c = (
  omega (arith, c.requires c.wide-k.result, c.wide-k.ensures.1),
  c.loop-at.invariant.1
      ∙ until_next (col c.args.parents.now) c.requires (flag c.args.used.now) c.loop-at.at c.loop-at-test.true
      (ap (flag c.args.used.now) (sym c.wide-k.ensures.0) ∙ c.if-used-k.false)
      ∙ ap (λ (x : ℕ). nearest (col c.args.parents.now) (flag c.args.used.now) (get_or c.args.parents.now x 0)) (sym c.wide-k.ensures.0),
)

pub returns : goal.returns
unfolding nearest
returns c =
    let z : c.loop-at.at ≡ 0 = omega (arith, c.loop-at-test.false) in
    z ∙ sym (c.loop-at.invariant.1 ∙ ap (nearest (col c.args.parents.now) (flag c.args.used.now)) z ∙ until_root (col c.args.parents.now) c.requires (flag c.args.used.now))
