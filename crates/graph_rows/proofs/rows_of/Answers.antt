use native.Mathlib.Omega.{arith}
use Rattle.graph_rows.specs.Rows.{rows_of}
use Rattle.graph_rows.proofs.Copies.{copied_all}
use Rattle.graph_rows.proofs.rows_of.Goals as goal

pub returns : goal.returns
unfolding rows_of
returns c = copied_all _ _ _ _ _ c.requires (omega (arith, c.requires, c.loop-place-test.false)) c.loop-place.invariant
