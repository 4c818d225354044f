use mathlib.Core.Path.{sym, ap, ◌∙◌}
use native.Mathlib.Nat.{le_antisymm}
use native.Mathlib.Omega.{arith}
use Rattle.entry_lists.specs.Entries.{entered}
use Rattle.listing.proofs.Voters.{laid_none, laid_room, turn_silent, turn_unsuited, laid_single, laid_both}
use borrow.Author.Rules.{rules}
use Rattle.listing.proofs.entries_of.Goals as goal

pub loop-place-init : goal.loop-place-init
loop-place-init c = (search rules, laid_none _ _)

pub index-at-requires : goal.index-at-requires
index-at-requires c = omega (arith, c.loop-place-test.true, c.requires.1)

pub bounds-counts-at : goal.bounds-counts-at
bounds-counts-at c = c.index-at.ensures.1

pub loop-place-preserved-then-pairs-eq0 : goal.loop-place-preserved-then-pairs-eq0
loop-place-preserved-then-pairs-eq0 c = (omega (arith, c.loop-place-test.true), c.loop-place.invariant.1 ∙ ap entered (sym (turn_silent _ _ _ _ _ _ _ c.index-at.ensures.0 c.if-pairs-eq0.true)))

pub suits-requires : goal.suits-requires
suits-requires c = (c.requires.0, c.index-at.ensures.1)

pub loop-place-preserved-then-not-suits : goal.loop-place-preserved-then-not-suits
loop-place-preserved-then-not-suits c = (omega (arith, c.loop-place-test.true), c.loop-place.invariant.1 ∙ ap entered (sym (turn_unsuited _ _ _ _ _ _ _ c.index-at.ensures.0 (sym c.suits.ensures ∙ c.if-not-suits.true))))

pub entry-requires : goal.entry-requires
entry-requires c = (c.index-at.ensures.1, omega arith)

pub offset_bounds-entries-n : goal.offset_bounds-entries-n
offset_bounds-entries-n c = omega (arith, laid_room _ _ _ _ _ c.loop-place.invariant.1 (omega (arith, c.loop-place-test.true, c.requires.1)))

pub bounds-entries-n : goal.bounds-entries-n
bounds-entries-n c = omega (arith, laid_room _ _ _ _ _ c.loop-place.invariant.1 (omega (arith, c.loop-place-test.true, c.requires.1)))

pub overflow_add-n : goal.overflow_add-n
overflow_add-n c = omega (arith, laid_room _ _ _ _ _ c.loop-place.invariant.1 (omega (arith, c.loop-place-test.true, c.requires.1)))

pub loop-place-preserved-then-pairs-eq1 : goal.loop-place-preserved-then-pairs-eq1
loop-place-preserved-then-pairs-eq1 c = (omega (arith, c.loop-place-test.true), laid_single _ _ _ _ _ _ _ c.index-at.ensures.0 _ _ c.loop-place.invariant.1 (omega (arith, c.loop-place-test.true, c.requires.1)) _ c.entry.ensures.0 c.if-pairs-eq1.true (sym c.suits.ensures ∙ c.if-not-suits.false))

pub entry-requires-in-loop-place : goal.entry-requires-in-loop-place
entry-requires-in-loop-place c = (c.index-at.ensures.1, omega arith)

pub offset_bounds-entries-n-in-loop-place : goal.offset_bounds-entries-n-in-loop-place
offset_bounds-entries-n-in-loop-place c = omega (arith, laid_room _ _ _ _ _ c.loop-place.invariant.1 (omega (arith, c.loop-place-test.true, c.requires.1)))

pub bounds-entries-n-in-loop-place : goal.bounds-entries-n-in-loop-place
bounds-entries-n-in-loop-place c = omega (arith, laid_room _ _ _ _ _ c.loop-place.invariant.1 (omega (arith, c.loop-place-test.true, c.requires.1)))

pub overflow_add-n-in-loop-place : goal.overflow_add-n-in-loop-place
overflow_add-n-in-loop-place c = omega (arith, laid_room _ _ _ _ _ c.loop-place.invariant.1 (omega (arith, c.loop-place-test.true, c.requires.1)))

pub loop-place-preserved : goal.loop-place-preserved
loop-place-preserved c = (omega (arith, c.loop-place-test.true), laid_both _ _ _ _ _ _ _ c.index-at.ensures.0 _ _ c.loop-place.invariant.1 (omega (arith, c.loop-place-test.true, c.requires.1)) _ _ c.entry.ensures.0 c.entry-in-loop-place.ensures.0 (omega (arith, c.if-pairs-eq0.false, c.if-pairs-eq1.false)) (sym c.suits.ensures ∙ c.if-not-suits.false))

pub returns : goal.returns
returns c = c.loop-place.invariant.1 ∙ rw (c.phase_in-phase.ensures, le_antisymm c.loop-place.invariant.0 c.loop-place-test.false)
