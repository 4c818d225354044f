use mathlib.Core.Path.{sym, ◌∙◌}
use native.Mathlib.Omega.{arith}
use Rattle.marks.proofs.Readings.{size_most, read_short, read_unknown, read_cut, read_whole}
use Rattle.marks.proofs.read.Goals as goal

pub returns-then-bytes-lt2 : goal.returns-then-bytes-lt2
returns-then-bytes-lt2 c = sym (read_short _ c.if-bytes-lt2.true)

pub returns-in_default : goal.returns-in_default
returns-in_default c =
    sym (read_unknown _ c.if-bytes-lt2.false (rw (← c.from.ensures, ← c.from-2.ensures) (sym c.name.ensures ∙ c.in_default.is)))

pub overflow_add-size : goal.overflow_add-size
overflow_add-size c = omega (arith, size_most c.in-Some.mark, c.size.ensures)

pub returns-then-bytes-size : goal.returns-then-bytes-size
returns-then-bytes-size c =
    sym (read_cut _ c.in-Some.mark c.if-bytes-lt2.false (rw (← c.from.ensures, ← c.from-2.ensures) (sym c.name.ensures ∙ c.in-Some.is)) (rw c.size.ensures at c.if-bytes-size.true))

pub returns : goal.returns
returns c =
    sym (read_whole _ _ (rw (← c.from.ensures, ← c.from-2.ensures) (sym c.name.ensures ∙ c.in-Some.is)) (rw c.size.ensures at c.if-bytes-size.false))
