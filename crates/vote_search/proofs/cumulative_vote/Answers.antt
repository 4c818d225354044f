use mathlib.Core.Path.{◌∙◌}
use native.Mathlib.Omega.{arith}
use Rattle.std.proofs.lemmas.List.{length-take-le}
use Rattle.vote_search.proofs.Turns.{found_few}
use Rattle.vote_search.proofs.Ancestors.{tallied_node, tallied_bare}
use Rattle.vote_search.proofs.cumulative_vote.Goals as goal

pub returns-then-used-at : goal.returns-then-used-at
returns-then-used-at c = tallied_node _ _ _ _ _ _ _ _ c.wide-at.ensures.0 c.if-used-at.true

pub as_slice-requires : goal.as_slice-requires
as_slice-requires c =
    let short = length-take-le c.args.tips c.args.heads.now (omega (arith, c.requires.2, c.told-heads)) in
    omega (arith, found_few _ _ _ _ _ c.find_containing_nodes-found.ensures, short, c.requires.2)

pub returns : goal.returns
returns c =
    c.then_some.ensures
    ∙ tallied_bare _ _ _ _ _ _ _ _ c.wide-at.ensures.0 c.if-used-at.false (omega (arith, c.requires.2, c.told-heads)) _ c.find_containing_nodes-found.ensures
    _ c.as_slice.ensures _ c.join_of-joined.ensures
