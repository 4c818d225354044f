use mathlib.Core.List.{[]}
use Rattle.graph_rows.specs.Rows.{bits_of, row_of}
use Rattle.graph_rows.proofs.Copies.{Copied, Twos}
use Rattle.graph_rows.proofs.words_of.Given as goal

abbrev pub invariant-loop-k : goal.invariant-loop-k
invariant-loop-k l = Copied bits_of (row_of []) l.fn.rows l.words l.k × Twos l.fn.rows l.k
