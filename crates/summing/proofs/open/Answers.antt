use mathlib.Core.Path.{sym, ap, ◌∙◌}
use native.Mathlib.Omega.{arith}
use lib.ListN.{length}
use Rattle.marks.proofs.Readings.{whole_means}
use Rattle.runs.proofs.Turns.{whole_fields}
use Rattle.summing.proofs.Told.{op_stop, op_kept, op_on}
use Rattle.summing.proofs.open.Goals as goal

pub fields-fields-requires : goal.fields-fields-requires
fields-fields-requires c = (whole_means _ _ c.requires.1).1

pub long-number-requires : goal.long-number-requires
long-number-requires c = omega (arith, ap length c.fields-fields.ensures ∙ whole_fields _ _ c.requires.1)

pub word-base-requires : goal.word-base-requires
word-base-requires c = omega (arith, ap length c.fields-fields.ensures ∙ whole_fields _ _ c.requires.1)

pub returns-in_default : goal.returns-in_default
returns-in_default c = op_stop _ _ _ c.requires.0 _ c.requires.1 _ c.fields-fields.ensures _ c.word-base.ensures.0 (sym c.find.ensures ∙ c.in_default.is) _ c.more.ensures _ c.bare.ensures

pub slice_bounds-votes-start : goal.slice_bounds-votes-start
slice_bounds-votes-start c = omega (arith, (whole_means _ _ c.requires.1).1)

pub slice_bounds-votes-count : goal.slice_bounds-votes-count
slice_bounds-votes-count c = omega (arith, (whole_means _ _ c.requires.1).1)

pub votes-requires : goal.votes-requires
votes-requires c = op_kept 0 _ _ c.requires.0 _ c.requires.1 _ c.fields-fields.ensures _ c.word-base.ensures.0 _ c.long-number.ensures _ (sym c.find.ensures ∙ c.in-Some.is)

pub returns : goal.returns
returns c = op_on _ _ _ c.requires.0 _ c.requires.1 _ c.fields-fields.ensures _ c.word-base.ensures.0 _ c.long-number.ensures _ (sym c.find.ensures ∙ c.in-Some.is) _ c.more-seen.ensures _ c.votes.ensures
