use Prim.Native.Nat.{◌-◌}
use native.Mathlib.Omega.{arith}
use lib.Count.{count_leading_zeros}
use Rattle.loops.proofs.Tests.{true_T}
use Rattle.loops.proofs.Firsts.{Least}
use Rattle.bitfield.specs.Bits.{in_word}
use Rattle.bitfield.proofs.Words.{shl_one, rest}
use Rattle.bitfield.proofs.Walks.{top}
use borrow.Author.Rules.{rules}
use Rattle.bitfield.proofs.first_of.Goals as goal
use Rattle.bitfield.proofs.first_of.Goals.{Start}

here : (c : Start) → Least (in_word c.args.word) 64 (count_leading_zeros 64 c.args.word)
here c = top c.args.word c.requires (search rules)

pub overflow_cast-result : goal.overflow_cast-result
overflow_cast-result c = omega (arith, (here (goal.at.overflow_cast-result c).Start).inside)

pub overflow_sub-result : goal.overflow_sub-result
overflow_sub-result c = omega (arith, (here (goal.at.overflow_sub-result c).Start).inside)

pub overflow_sub-result-2 : goal.overflow_sub-result-2
overflow_sub-result-2 c = rw (shl_one (63 - count_leading_zeros 64 c.args.word) (omega arith)) (rest c.args.word _ (true_T _ (here (goal.at.overflow_sub-result-2 c).Start).passes)).least

pub returns : goal.returns
returns c = (rw (shl_one (63 - count_leading_zeros 64 c.args.word) (omega arith)), (here (goal.at.returns c).Start).inside)
