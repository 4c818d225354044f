use mathlib.Core.Path.{◌≡◌, sym}
use native.Mathlib.Omega.{arith}
use lib.ListN.{length, take, length-take}
use lib.Seq.{length-take-le}
use Rattle.feeding.proofs.Goes.{lay_done}
use borrow.Author.Rules.{rules}
use Rattle.feeding.proofs.lay.Goals as goal

pub slice_bounds-copy-end : goal.slice_bounds-copy-end
slice_bounds-copy-end c = sym (length-take-le _ _ (omega (arith, c.requires.0, c.well_formed.0)))

pub copy-requires : goal.copy-requires
copy-requires c = omega (arith, length-take c.args.count c.args.held, c.requires.0)

pub returns : goal.returns
returns c =
    let l : length c.args.held ≡ 22 = search rules in
    (lay_done (take c.args.count c.args.held) c.args.part.now _ _ c.args.count (length-take-le _ _ (omega (arith, c.requires.0))) (omega (arith, c.requires.0, c.requires.1)) c.copy.ensures c.copy-2.ensures, l)
