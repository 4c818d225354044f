use mathlib.Core.Path.{sym, ◌∙◌}
use Rattle.loops.proofs.Tests.{true_false}
use Rattle.block_shape.specs.Shape.{are_clear}
use Rattle.block_shape.proofs.Shapes.{clear_of_blank}
use Rattle.block_shape.proofs.are_clear.Goals as goal
use Rattle.block_shape.proofs.are_clear.Goals.{then-blank, else-blank}

pub returns-then-blank-2 : goal.returns-then-blank-2
unfolding are_clear
returns-then-blank-2 c =
    let ids = c.blank.ensures ∙ clear_of_blank _ _ _ c.told-ids in
    let parents = c.blank-then-blank-2.ensures ∙ clear_of_blank _ _ _ c.told-parents in
    elim c.if-blank.branch [
      | then-blank w ↦
          let numbers = w.blank-then-blank.ensures ∙ clear_of_blank _ _ _ c.told-numbers in
          rw (sym ids ∙ w.if-blank.true, sym numbers ∙ sym w.value-is ∙ c.if-blank-2.true) parents
      | else-blank w ↦ absurd (true_false c.if-blank-2.true (w.value-is ∙ w.if-blank.false))
    ]

pub returns-else-blank-2 : goal.returns-else-blank-2
unfolding are_clear
returns-else-blank-2 c =
    let ids = c.blank.ensures ∙ clear_of_blank _ _ _ c.told-ids in
    elim c.if-blank.branch [
      | then-blank w ↦
          let numbers = w.blank-then-blank.ensures ∙ clear_of_blank _ _ _ c.told-numbers in
          rw (sym ids ∙ w.if-blank.true, sym numbers ∙ sym w.value-is ∙ c.if-blank-2.false) c.if-blank-2.false
      | else-blank w ↦ rw (sym ids ∙ w.if-blank.false) c.if-blank-2.false
    ]
