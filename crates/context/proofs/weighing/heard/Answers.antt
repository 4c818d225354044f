use mir.Syntax.{w64}
use mir.Val.{Fits}
use lib.ListN.{get_or}
use native.Mathlib.Omega.{arith}
use lib.Count.{ones-le}
use Rattle.context.proofs.Sums.{phase_heard}
use borrow.Author.Rules.{rules}
use Rattle.context.proofs.weighing.heard.Goals as goal

pub overflow_add-result : goal.overflow_add-result
overflow_add-result c =
    let f : Fits w64 (get_or c.of_phase-left.result 0 0) = search rules in
    let g : Fits w64 (get_or c.of_phase-left.result 1 0) = search rules in
    omega (arith, ones-le 64 (get_or c.of_phase-left.result 0 0) (omega arith), ones-le 64 (get_or c.of_phase-left.result 1 0) (omega arith))

pub returns : goal.returns
returns c =
    let f : Fits w64 (get_or c.of_phase-left.result 0 0) = search rules in
    let g : Fits w64 (get_or c.of_phase-left.result 1 0) = search rules in
    phase_heard c.of_phase-left.result _ _ c.of_phase-left.ensures (omega arith) (omega arith)
