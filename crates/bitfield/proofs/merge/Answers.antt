use mathlib.Core.Path.{◌≡◌, sym}
use lib.ListN.{length}
use Rattle.bitfield.proofs.Pairs.{joined_two}
use borrow.Author.Rules.{rules}
use Rattle.bitfield.proofs.merge.Goals as goal

pub returns : goal.returns
returns c =
    let two : length c.args.bits ≡ 2 = search rules in
    sym (joined_two _ two _)
