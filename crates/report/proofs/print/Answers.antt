use mathlib.Core.Path.{sym, ◌∙◌}
use lib.Seq.{length-take-le}
use Rattle.report.specs.Report.{lines_of, printed}
use Rattle.report.proofs.Prints.{size_inside, copy_fits, print_short, print_done}
use Rattle.report.proofs.print.Goals as goal

pub returns-then-not-is_replay : goal.returns-then-not-is_replay
unfolding printed
returns-then-not-is_replay c = rw (sym c.is_replay.ensures ∙ c.if-not-is_replay.true)

pub returns-then-out-size : goal.returns-then-out-size
returns-then-out-size c = print_short c.args.replay (sym c.is_replay.ensures ∙ c.if-not-is_replay.false) _ _ c.put-size.ensures.1 c.if-out-size.true

pub slice_bounds-text-end : goal.slice_bounds-text-end
slice_bounds-text-end c = size_inside (lines_of c.args.replay) _ _ _ c.put-size.ensures.0 c.put-size.ensures.1

pub slice_bounds-copy-end : goal.slice_bounds-copy-end
slice_bounds-copy-end c = sym (length-take-le _ _ (size_inside (lines_of c.args.replay) _ _ _ c.put-size.ensures.0 c.put-size.ensures.1))

pub copy-requires : goal.copy-requires
copy-requires c = copy_fits (lines_of c.args.replay) _ _ _ c.put-size.ensures.0 c.put-size.ensures.1 c.args.out.now c.if-out-size.false

pub returns : goal.returns
returns c = print_done c.args.replay (sym c.is_replay.ensures ∙ c.if-not-is_replay.false) _ _ c.put-size.ensures.1 c.if-out-size.false _ _ c.put-size.ensures.0 _ c.copy.ensures
