use mathlib.Core.Path.{sym}
use lib.Seq.{length-take-le}
use Rattle.summing.proofs.make.Goals as goal

pub slice_bounds-new-end : goal.slice_bounds-new-end
slice_bounds-new-end c = sym (length-take-le _ _ c.requires.0)

pub slice_bounds-new-end-2 : goal.slice_bounds-new-end-2
slice_bounds-new-end-2 c = sym (length-take-le _ _ c.requires.1)
