use mathlib.Core.Path.{sym}
use lib.Seq.{length-take-le}
use Rattle.report.proofs.Prints.{size_inside, copy_fits}
use Rattle.summary_lines.specs.Text.{text_of}
use Rattle.summary_lines.proofs.Prints.{print_short, print_done}
use Rattle.summary_lines.proofs.print.Goals as goal

pub returns-then-out-size : goal.returns-then-out-size
returns-then-out-size c = print_short c.args.summary _ _ c.put-size.ensures.1 c.if-out-size.true

pub slice_bounds-text-end : goal.slice_bounds-text-end
slice_bounds-text-end c = size_inside (text_of c.args.summary) _ _ _ c.put-size.ensures.0 c.put-size.ensures.1

pub slice_bounds-copy-end : goal.slice_bounds-copy-end
slice_bounds-copy-end c = sym (length-take-le _ _ (size_inside (text_of c.args.summary) _ _ _ c.put-size.ensures.0 c.put-size.ensures.1))

pub copy-requires : goal.copy-requires
copy-requires c = copy_fits (text_of c.args.summary) _ _ _ c.put-size.ensures.0 c.put-size.ensures.1 c.args.out.now c.if-out-size.false

pub returns : goal.returns
returns c = print_done c.args.summary _ _ c.put-size.ensures.1 c.if-out-size.false _ _ c.put-size.ensures.0 _ c.copy.ensures
