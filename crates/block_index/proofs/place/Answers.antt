use native.Mathlib.Omega.{arith}
use Rattle.block_index.proofs.Slots.{slot_small, slot_empty, slot_own, slot_strange}
use Rattle.block_index.proofs.place.Goals as goal

pub bounds-slots-own : goal.bounds-slots-own
bounds-slots-own c = omega (arith, c.slot-own.ensures, slot_small c.args.id)

pub returns-then-count-at : goal.returns-then-count-at
returns-then-count-at c = slot_empty _ _ _ c.requires _ _ _ c.slot-own.ensures c.from-at.ensures c.if-count-at.true

pub returns-then-met-id : goal.returns-then-met-id
returns-then-met-id c = slot_own _ _ _ c.requires _ _ _ c.slot-own.ensures c.from-at.ensures (omega (arith, c.if-count-at.false)) c.if-met-id.true

pub returns-then-slot-own : goal.returns-then-slot-own
returns-then-slot-own c = slot_strange _ _ _ c.requires _ _ _ c.slot-own.ensures c.from-at.ensures _ c.slot.ensures c.if-slot-own.true

pub find-requires : goal.find-requires
find-requires c = c.requires.few
