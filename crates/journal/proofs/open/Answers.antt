use mathlib.Core.Path.{sym, ap, ◌∙◌}
use native.Mathlib.Omega.{arith}
use lib.ListN.{length}
use Rattle.marks.proofs.Readings.{whole_means}
use Rattle.runs.proofs.Turns.{whole_fields}
use Rattle.journal.proofs.Done.{op_refused, op_ready, op_done, later_fits, later_within}
use Rattle.journal.proofs.open.Goals as goal

pub fields-fields-requires : goal.fields-fields-requires
fields-fields-requires c = (whole_means _ _ c.requires.1).1

pub long-number-requires : goal.long-number-requires
long-number-requires c = omega (arith, ap length c.fields-fields.ensures ∙ whole_fields _ _ c.requires.1)

pub word-base-requires : goal.word-base-requires
word-base-requires c = omega (arith, ap length c.fields-fields.ensures ∙ whole_fields _ _ c.requires.1)

pub returns-in_default : goal.returns-in_default
returns-in_default c = (
  op_refused _ _ c.requires.0 _ c.requires.1 _ c.fields-fields.ensures _ c.word-base.ensures.0 (sym c.find.ensures ∙ c.in_default.is) _ c.with_blocks.ensures,
  (omega arith, omega arith),
)

pub slice_bounds-from_votes-start : goal.slice_bounds-from_votes-start
slice_bounds-from_votes-start c = omega (arith, (whole_means _ _ c.requires.1).1)

pub slice_bounds-from_votes-count : goal.slice_bounds-from_votes-count
slice_bounds-from_votes-count c = omega (arith, (whole_means _ _ c.requires.1).1)

pub from_votes-requires : goal.from_votes-requires
from_votes-requires c = op_ready _ _ c.requires.0 _ c.requires.1 _ c.fields-fields.ensures _ c.word-base.ensures.0 _ c.long-number.ensures _ (sym c.find.ensures ∙ c.in-Some.is) _ c.opened-opened.ensures

pub later-requires : goal.later-requires
later-requires c = later_fits 1 14 c.args.part.now (omega arith) (whole_means _ _ c.requires.1).1 c.from_votes.result c.from_votes.ensures.1.0 c.from_votes.ensures.1.1 (omega (arith, c.well_formed.1.1.0))

pub returns : goal.returns
returns c = (
  op_done _ _ c.requires.0 _ c.requires.1 _ c.fields-fields.ensures _ c.word-base.ensures.0 _ c.long-number.ensures _ (sym c.find.ensures ∙ c.in-Some.is) _ c.opened-opened.ensures _ _ c.from_votes.ensures.0 c.later.ensures,
  later_within 1 14 c.args.part.now (omega arith) (whole_means _ _ c.requires.1).1 c.from_votes.result c.from_votes.ensures.1.0 c.from_votes.ensures.1.1 _ c.later.ensures,
)
