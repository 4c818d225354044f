-- The journal's second turn. Document 01, "The journal": Bk, one Op; "Refusal numbers" 5 to 8, and 18, out of turn.
use Rattle.std.specs.Prelude.{List, ℕ, Result, Ok, Err, ⊤}
use Rattle.blocks.specs.declared.BlockTable.{BlockTable}
use Rattle.blocks.specs.declared.Added.{Added}
use Rattle.blocks.specs.Add.{step}
use Rattle.marks.specs.declared.Mark.{Mark}
use Rattle.marks.specs.declared.Mark.TheVariants.{Vt, Rt, Bk, Op, Pv, Pc}
use Rattle.marks.specs.Marks.{word}
use Rattle.runs.specs.Run.{Next, goes, stops, leaves}
use Rattle.runs.specs.Tried.{taken_or_not}
use Rattle.refusals.specs.declared.Refusal.{Refusal}
use Rattle.std.specs.declared.ops.ControlFlow.{ControlFlow}
use Rattle.marks.specs.declared.End.{End}
use Rattle.refusals.specs.declared.Refusal.TheVariants.{OutOfTurn}

-- a Bk record: a block, and its parent
unfoldable pub added : BlockTable → List ℕ → Added
added t fs = step t (word fs 0) (word fs 4)

abbrev pub answered : {S : Type 0} → S → Result ℕ Refusal → Next S
answered s (Ok k) = goes s
answered s (Err n) = stops n

-- a record in the second turn; the Op ends it
unfoldable pub grown : BlockTable → Mark → List ℕ → Next BlockTable
grown t Bk fs = answered (added t fs).table (added t fs).answer
grown t Op fs = leaves
grown t Vt fs = stops OutOfTurn
grown t Rt fs = stops OutOfTurn
grown t Pv fs = stops OutOfTurn
grown t Pc fs = stops OutOfTurn

-- whether the loop goes on after an answer
abbrev pub turn_of : Result ℕ Refusal → ControlFlow End ⊤
turn_of a = (taken_or_not {S = Unit {0}} tt (answered tt a)).turn
