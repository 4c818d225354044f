use mathlib.Core.Path.{ap}
use native.Mathlib.Omega.{arith}
use lib.ListN.{length}
use Rattle.std.proofs.lemmas.List.{length-take-le}
use Rattle.loops.proofs.Listings.{length_front}
use Rattle.vote_search.proofs.Descents.{listed_as, listed_few, followed_by}
use Rattle.vote_search.proofs.following.Goals as goal

pub children-nodes-requires : goal.children-nodes-requires
children-nodes-requires c = omega (arith, length-take-le c.args.listed c.args.order.now (omega (arith, c.requires.1, c.told-order)), c.requires.1)

pub as_slice-requires : goal.as_slice-requires
as_slice-requires c =
    let listed = listed_as _ _ _ (omega (arith, c.requires.1, c.told-order)) _ _ c.children-nodes.ensures in
    omega (arith, listed_few _ _ _ _ _ listed, c.requires.1)

pub strictly_below-requires : goal.strictly_below-requires
strictly_below-requires c =
    let listed = listed_as _ _ _ (omega (arith, c.requires.1, c.told-order)) _ _ c.children-nodes.ensures in
    let m = c.children-nodes.result in
    (c.requires.0, omega (arith, listed_few _ _ _ _ _ listed, ap length c.as_slice.ensures, length_front m.count m.places, c.requires.1))

pub returns : goal.returns
returns c =
    followed_by _ _ _ _ _ _ _ _ _ c.nearest-over.ensures (listed_as _ _ _ (omega (arith, c.requires.1, c.told-order)) _ _ c.children-nodes.ensures)
    _ c.as_slice.ensures c.strictly_below.ensures
