use mathlib.Core.Path.{ap, ◌∙◌}
use native.Mathlib.Omega.{arith}
use lib.ListN.{length}
use Rattle.marks.proofs.Readings.{whole_means}
use Rattle.runs.proofs.Turns.{whole_fields}
use Rattle.summing.proofs.Told.{rt_stop, rt_stands, rt_on}
use Rattle.summing.proofs.root.Goals as goal

pub fields-fields-requires : goal.fields-fields-requires
fields-fields-requires c = (whole_means _ _ c.requires.1).1

pub word-first-requires : goal.word-first-requires
word-first-requires c = omega (arith, ap length c.fields-fields.ensures ∙ whole_fields _ _ c.requires.1)

pub word-height-requires : goal.word-height-requires
word-height-requires c = omega (arith, ap length c.fields-fields.ensures ∙ whole_fields _ _ c.requires.1)

pub slice_bounds-grown-start : goal.slice_bounds-grown-start
slice_bounds-grown-start c = omega (arith, (whole_means _ _ c.requires.1).1)

pub slice_bounds-grown-count : goal.slice_bounds-grown-count
slice_bounds-grown-count c = omega (arith, (whole_means _ _ c.requires.1).1)

pub grown-requires : goal.grown-requires
grown-requires c = rt_stands 0 (record { ids = c.args.ids.now; weights = c.args.weights.now; count = c.args.pairs }) _ c.requires.1 _ c.fields-fields.ensures _ c.make.ensures _ c.in-Ok.is _ _ c.word-first.ensures.0 c.word-height.ensures.0

pub returns-in-Err : goal.returns-in-Err
returns-in-Err c = rt_stop _ _ _ c.requires.1 _ c.fields-fields.ensures _ c.make.ensures _ c.in-Err.is _ c.more.ensures _ c.bare.ensures

pub returns-in-Ok : goal.returns-in-Ok
returns-in-Ok c = rt_on _ _ _ c.requires.1 _ c.fields-fields.ensures _ c.make.ensures _ c.in-Ok.is _ _ c.word-first.ensures.0 c.word-height.ensures.0 _ c.more-seen.ensures _ c.grown.ensures
