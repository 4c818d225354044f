use mathlib.Core.Path.{◌≡◌, sym}
use lib.ListN.{length}
use Rattle.bitfield.proofs.Pairs.{every_two, odds}
use borrow.Author.Rules.{rules}
use Rattle.bitfield.proofs.odd_bits.Goals as goal

pub returns : goal.returns
returns c =
    let two : length c.args.bits ≡ 2 = search rules in
    rw c.masked.ensures (sym (every_two _ two 1 _ odds))
