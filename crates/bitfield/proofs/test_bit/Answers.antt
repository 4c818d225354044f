use mathlib.Core.Path.{◌≡◌, sym}
use native.Mathlib.Omega.{arith}
use lib.ListN.{length}
use Rattle.bitfield.specs.Bits.{has, in_word}
use Rattle.bitfield.proofs.Sets.{has_past}
use borrow.Author.Rules.{rules}
use Rattle.bitfield.proofs.test_bit.Goals as goal

pub returns-then-position-ge-BITS : goal.returns-then-position-ge-BITS
returns-then-position-ge-BITS c =
    let two : length c.args.bits ≡ 2 = search rules in
    sym (has_past _ _ (omega arith))

pub returns : goal.returns
unfolding has in_word
returns c = rw c.shift_of.ensures
