use mathlib.Core.Path.{ap, ◌∙◌}
use native.Mathlib.Omega.{arith}
use lib.ListN.{length}
use Rattle.marks.proofs.Readings.{whole_means}
use Rattle.runs.proofs.Turns.{whole_fields}
use Rattle.journal.proofs.Done.{rt_refused, rt_ready, rt_done, later_fits, later_within}
use Rattle.journal.proofs.root.Goals as goal

pub fields-fields-requires : goal.fields-fields-requires
fields-fields-requires c = (whole_means _ _ c.requires.1).1

pub word-requires : goal.word-requires
word-requires c = omega (arith, ap length c.fields-fields.ensures ∙ whole_fields _ _ c.requires.1)

pub word-requires-in-Ok : goal.word-requires-in-Ok
word-requires-in-Ok c = omega (arith, ap length c.fields-fields.ensures ∙ whole_fields _ _ c.requires.1)

pub slice_bounds-from_blocks-start : goal.slice_bounds-from_blocks-start
slice_bounds-from_blocks-start c = omega (arith, (whole_means _ _ c.requires.1).1)

pub slice_bounds-from_blocks-count : goal.slice_bounds-from_blocks-count
slice_bounds-from_blocks-count c = omega (arith, (whole_means _ _ c.requires.1).1)

pub from_blocks-requires : goal.from_blocks-requires
from_blocks-requires c = rt_ready c.args.pairs _ c.requires.1 _ c.fields-fields.ensures _ c.make.ensures _ c.in-Ok.is _ _ c.word.ensures.0 c.word-in-Ok.ensures.0 _ c.new-table.ensures

pub later-requires : goal.later-requires
later-requires c = later_fits 1 10 c.args.part.now (omega arith) (whole_means _ _ c.requires.1).1 c.from_blocks.result c.from_blocks.ensures.1.0 c.from_blocks.ensures.1.1 (omega (arith, c.well_formed.1.0))

pub returns-in-Err : goal.returns-in-Err
returns-in-Err c = (
  rt_refused c.args.pairs _ c.requires.1 _ c.fields-fields.ensures _ c.make.ensures _ c.in-Err.is _ c.with_pairs.ensures,
  (omega arith, omega arith),
)

pub returns-in-Ok : goal.returns-in-Ok
returns-in-Ok c = (
  rt_done c.args.pairs _ c.requires.1 _ c.fields-fields.ensures _ c.make.ensures _ c.in-Ok.is _ _ c.word.ensures.0 c.word-in-Ok.ensures.0 _ c.new-table.ensures _ _ c.from_blocks.ensures.0 c.later.ensures,
  later_within 1 10 c.args.part.now (omega arith) (whole_means _ _ c.requires.1).1 c.from_blocks.result c.from_blocks.ensures.1.0 c.from_blocks.ensures.1.1 _ c.later.ensures,
)
