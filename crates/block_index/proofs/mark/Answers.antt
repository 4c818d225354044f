use native.Mathlib.Omega.{arith}
use Rattle.block_index.proofs.Slots.{slot_small}
use Rattle.block_index.proofs.mark.Goals as goal

pub bounds-slots-slot : goal.bounds-slots-slot
bounds-slots-slot c = omega (arith, c.slot.ensures, slot_small c.args.id)

pub returns-in-Ok : goal.returns-in-Ok
returns-in-Ok c = rw (c.in-Ok.is, c.slot.ensures)
