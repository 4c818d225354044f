use mathlib.Core.Path.{◌≡◌, sym}
use Prim.Native.Nat.{◌-◌, ◌%◌}
use native.Mathlib.Omega.{arith}
use lib.ListN.{length}
use Rattle.bitfield.proofs.Words.{shl_one}
use Rattle.bitfield.proofs.Sets.{put_past}
use Rattle.bitfield.proofs.Pairs.{put_first, put_second}
use borrow.Author.Rules.{rules}
use Rattle.bitfield.proofs.set_bit.Goals as goal

pub returns-then-position-lt-WORD : goal.returns-then-position-lt-WORD
returns-then-position-lt-WORD c =
    let two : length c.args.bits ≡ 2 = search rules in
    rw (c.shift_of.ensures, shl_one (63 - c.args.position % 64) (omega arith)) (sym (put_first _ two _ (search rules)))

pub returns-then-position-lt-BITS : goal.returns-then-position-lt-BITS
returns-then-position-lt-BITS c =
    let two : length c.args.bits ≡ 2 = search rules in
    rw (c.shift_of.ensures, shl_one (63 - c.args.position % 64) (omega arith)) (sym (put_second _ two _ (search rules) (search rules)))

pub returns : goal.returns
returns c =
    let two : length c.args.bits ≡ 2 = search rules in
    sym (put_past _ _ (omega arith))
