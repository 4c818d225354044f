use mathlib.Core.Path.{sym, ap, ◌∙◌}
use Prim.Native.Nat.{ℕ}
use lib.ListN.{length, length-replicate}
use Rattle.marks.proofs.Readings.{whole_means}
use Rattle.runs.proofs.Turns.{whole_fields}
use Rattle.runs.proofs.Loops.{going_start, tried_goes, going_on, going_over, going_ends, going_fits}
use Rattle.growing.specs.Growing.{grown}
use Rattle.growing.proofs.run.Goals as goal

pub index-requires : goal.index-requires
index-requires c = (c.requires.0, c.requires.1, length-replicate {A = ℕ} 1024 0)

pub loop-mark-init : goal.loop-mark-init
loop-mark-init c = (going_start _ _ _, c.index.ensures.indexed)

pub slice_bounds-part-count : goal.slice_bounds-part-count
slice_bounds-part-count c = c.loop-mark.invariant.0.within

pub returns-in_default : goal.returns-in_default
returns-in_default c =
    record {
      fact = going_ends grown _ _ _ _ _ _ _ c.loop-mark.invariant.0 c.read.ensures c.in_default.not-Whole c.ending.ensures;
      blocks_bound = (c.loop-mark.invariant.1.few, c.loop-mark.invariant.0.fewer, c.loop-mark.invariant.0.within);
    }

pub fields-fields-requires : goal.fields-fields-requires
fields-fields-requires c = (whole_means _ _ (sym c.read.ensures ∙ c.in-Whole.is)).1

pub take-took-requires : goal.take-took-requires
take-took-requires c = (c.loop-mark.invariant.1, ap length c.fields-fields.ensures ∙ whole_fields _ _ (sym c.read.ensures ∙ c.in-Whole.is))

pub overflow_add-taken : goal.overflow_add-taken
overflow_add-taken c = (going_fits grown _ _ _ _ _ _ _ c.loop-mark.invariant.0 (sym c.read.ensures ∙ c.in-Whole.is) c.fields-fields.ensures c.well_formed.1.1.1.1.0.0).count

pub overflow_add-at : goal.overflow_add-at
overflow_add-at c = (going_fits grown _ _ _ _ _ _ _ c.loop-mark.invariant.0 (sym c.read.ensures ∙ c.in-Whole.is) c.fields-fields.ensures c.well_formed.1.1.1.1.0.0).taken

pub overflow_add-at-in-loop-mark : goal.overflow_add-at-in-loop-mark
overflow_add-at-in-loop-mark c = (going_fits grown _ _ _ _ _ _ _ c.loop-mark.invariant.0 (sym c.read.ensures ∙ c.in-Whole.is) c.fields-fields.ensures c.well_formed.1.1.1.1.0.0).place

pub loop-mark-smaller : goal.loop-mark-smaller
loop-mark-smaller c = (going_fits grown _ _ _ _ _ _ _ c.loop-mark.invariant.0 (sym c.read.ensures ∙ c.in-Whole.is) c.fields-fields.ensures c.well_formed.1.1.1.1.0.0).less

pub loop-mark-preserved : goal.loop-mark-preserved
loop-mark-preserved c = (
  going_on grown _ _ _ _ _ _ _ _ c.loop-mark.invariant.0 (sym c.read.ensures ∙ c.in-Whole.is) c.fields-fields.ensures
      (tried_goes grown _ _ _ _ _ c.take-took.ensures.fact c.in_default-turn.not-Break),
  c.take-took.ensures.indexed,
)

pub returns-in-Break : goal.returns-in-Break
returns-in-Break c =
    record {
      fact = going_over grown _ _ _ _ _ _ _ _ _ _ c.loop-mark.invariant.0 (sym c.read.ensures ∙ c.in-Whole.is) c.fields-fields.ensures c.take-took.ensures.fact c.in-Break.is;
      blocks_bound = (c.take-took.ensures.indexed.few, c.loop-mark.invariant.0.fewer, c.loop-mark.invariant.0.within);
    }
