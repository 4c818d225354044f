use mathlib.Core.Path.{◌≡◌, sym, ◌∙◌}
use Prim.Native.Nat.{◌<◌}
use native.Mathlib.Omega.{arith}
use lib.ListN.{length-set, get_or-eq_default}
use Rattle.std.proofs.lemmas.List.{length-take-le}
use Rattle.loops.proofs.Alls.{all_none, all_more}
use Rattle.lists.proofs.Rests.{in_front}
use Rattle.lists.proofs.Strikes.{struck_none, struck_more, fresh_is, once_false, once_end}
use Rattle.lists.proofs.once_each.Goals as goal
use Rattle.lists.proofs.once_each.Goals.{then-at-via-then-at, then-at-via-else-at+then-not-left-at}

pub loop-place-init : goal.loop-place-init
loop-place-init g c = (struck_none _ _ _, all_none _, c.told-marks)

pub returns-then-at : goal.returns-then-at
returns-then-at g c =
    let xs = c.args.places.now in
    let front = length-take-le c.args.n xs (omega (arith, c.told-places, c.requires)) in
    let h : c.loop-place.place-index < c.args.n = omega (arith, c.loop-place-test.true, front) in
    let e = g.met.T.Number.reads xs c.loop-place.place-index c.place-item.result (omega (arith, h, c.told-places, c.requires)) (in_front xs c.args.n _ _ h c.place-item.is) in
    let new = fresh_is _ _ _ _ _ c.loop-place.invariant.0 (c.wide-at.ensures ∙ sym e) in
    elim c.then-at.branch [
      | then-at-via-then-at w ↦ once_false _ _ _ _ _ h (new ∙ get_or-eq_default c.loop-place.left _ {n = c.wide-at.result} (omega (arith, c.loop-place.invariant.2, w.if-at.true)))
      | then-at-via-else-at+then-not-left-at w ↦ once_false _ _ _ _ _ h (new ∙ w.if-not-left-at.true)
    ]

pub loop-place-preserved : goal.loop-place-preserved
loop-place-preserved g c =
    let xs = c.args.places.now in
    let front = length-take-le c.args.n xs (omega (arith, c.told-places, c.requires)) in
    let h : c.loop-place.place-index < c.args.n = omega (arith, c.loop-place-test.true, front) in
    let e = g.met.T.Number.reads xs c.loop-place.place-index c.place-item.result (omega (arith, h, c.told-places, c.requires)) (in_front xs c.args.n _ _ h c.place-item.is) in
    let at = c.wide-at.ensures ∙ sym e in (
      struck_more _ _ _ _ _ _ c.loop-place.invariant.0 at,
      all_more _ _ c.loop-place.invariant.1 (fresh_is _ _ _ _ _ c.loop-place.invariant.0 at ∙ c.if-not-left-at.false),
      simp length-set c.loop-place.invariant.2,
    )

pub returns : goal.returns
returns g c =
    let front = length-take-le c.args.n c.args.places.now (omega (arith, c.told-places, c.requires)) in
    let e : c.loop-place.place-index ≡ c.args.n = omega (arith, front, c.loop-place-test.false, c.loop-place.auto.place-index-end) in
    rw c.loop-place.invariant.2 at c.none_left.ensures
    ∙ once_end _ _ _ _ _ _ e c.loop-place.invariant.1 c.loop-place.invariant.0
