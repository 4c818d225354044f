use mathlib.Core.Path.{◌≡◌, refl, sym, ap, subst, ◌∙◌}
use native.Mathlib.Omega.{arith}
use Prim.Native.Nat.{◌-◌}
use lib.ListN.{get_or, set}
use Rattle.block_index.specs.Index.{Indexed, indexed}
use Rattle.block_index.proofs.Slots.{slot_small, index_one, index_none, index_indexed}
use Rattle.block_index.proofs.index.Goals as goal

pub loop-place-init : goal.loop-place-init
loop-place-init c = (omega arith, refl)

pub bounds-slots-slot : goal.bounds-slots-slot
bounds-slots-slot c = omega (arith, c.slot.ensures, slot_small (get_or c.args.ids.now (c.loop-place.place - 1) 0))

pub loop-place-preserved : goal.loop-place-preserved
loop-place-preserved c =
    let a = c.args in
    let l = c.loop-place in (
      omega (arith, l.invariant.0),
      ap (λ s. indexed a.ids.now (l.place - 1) (set l.slots s (l.place - 1))) c.slot.ensures
          ∙ index_one a.ids.now a.count l.slots l.place (omega (arith, c.loop-place-test.true))
          ∙ l.invariant.1,
    )

pub returns : goal.returns
returns c =
    let a = c.args in
    let l = c.loop-place in
    let z : l.place ≡ 0 = omega (arith, c.loop-place-test.false) in
    let e : l.slots ≡ indexed a.ids.now a.count a.slots.now = sym (index_none a.ids.now a.count l.slots l.place z) ∙ l.invariant.1 in
    record {
      slots_after = e;
      indexed = subst (λ s. Indexed a.ids.now s a.count) (sym e) (index_indexed a.ids.now a.count a.slots.now c.requires.0 c.requires.1 c.requires.2);
    }
