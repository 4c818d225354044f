use mathlib.Core.Path.{refl, sym, ap, ◌∙◌}
use mathlib.Core.List.{List}
use Prim.Native.Nat.{ℕ}
use lib.ListN.{get_or}
use Rattle.loops.specs.Listing.{fold, front}
use Rattle.loops.proofs.Listings.{fold_front}
use Rattle.bitfield.specs.Bits.{joined}
use Rattle.graph.specs.Graph.{join_of, no_bits}
use Rattle.nodes.specs.Nodes.{row}
use Rattle.nodes.proofs.Lists.{front_end}
use Rattle.nodes.proofs.join_of.Goals as goal

pub loop-place-init : goal.loop-place-init
unfolding join_of front fold
loop-place-init c = refl

pub bounds-rows-node : goal.bounds-rows-node
bounds-rows-node c = c.wide-node.ensures.1

pub loop-place-preserved : goal.loop-place-preserved
unfolding join_of front fold
loop-place-preserved c =
    let rows = c.args.rows.now in
    let k = c.loop-place.place-index in
    c.merge-more.ensures ∙ ap (λ (b : List ℕ). joined b (get_or rows c.wide-node.result _)) c.loop-place.invariant
    ∙ ap (λ (x : ℕ). joined (join_of (row rows) (front k c.args.places.now)) (row rows x)) c.wide-node.ensures.0
    ∙ sym (fold_front (λ n v. joined v (row rows n)) k c.args.places.now no_bits)

pub returns : goal.returns
returns c =
    c.loop-place.invariant ∙ ap (join_of (row c.args.rows.now)) (front_end _ _ c.loop-place.auto.place-index-end c.loop-place-test.false)
