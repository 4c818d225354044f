use mathlib.Core.Path.{sym}
use native.Mathlib.Omega.{arith}
use lib.Seq.{length-take-le}
use Rattle.journal.proofs.make.Goals as goal

pub slice_bounds-new-end : goal.slice_bounds-new-end
slice_bounds-new-end c = sym (length-take-le _ _ (omega (arith, c.requires, c.well_formed.0)))

pub slice_bounds-new-end-2 : goal.slice_bounds-new-end-2
slice_bounds-new-end-2 c = sym (length-take-le _ _ (omega (arith, c.requires, c.well_formed.1.0)))
