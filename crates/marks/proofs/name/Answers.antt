use native.Mathlib.Omega.{arith}
use Rattle.std.proofs.lemmas.Bool.Decides.{nat_tests}
use Rattle.marks.specs.Marks.{named}
use Rattle.marks.proofs.name.Goals as goal

pub returns-in-29782 : goal.returns-in-29782
unfolding named
returns-in-29782 c = rw c.in-29782.is

pub returns-in-29778 : goal.returns-in-29778
unfolding named
returns-in-29778 c = rw c.in-29778.is

pub returns-in-27458 : goal.returns-in-27458
unfolding named
returns-in-27458 c = rw c.in-27458.is

pub returns-in-28751 : goal.returns-in-28751
unfolding named
returns-in-28751 c = rw c.in-28751.is

pub returns-in-30288 : goal.returns-in-30288
unfolding named
returns-in-30288 c = rw c.in-30288.is

pub returns-in-25424 : goal.returns-in-25424
unfolding named
returns-in-25424 c = rw c.in-25424.is

pub returns-in_default : goal.returns-in_default
unfolding named
returns-in_default c = grind (arith, nat_tests)
