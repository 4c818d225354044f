use mathlib.Core.List.{[]}
use Rattle.graph_rows.specs.Rows.{row_of}
use Rattle.graph_rows.proofs.Copies.{Copied}
use Rattle.graph_rows.proofs.rows_of.Given as goal

abbrev pub invariant-loop-place : goal.invariant-loop-place
invariant-loop-place l = Copied row_of [] l.words l.rows l.place
