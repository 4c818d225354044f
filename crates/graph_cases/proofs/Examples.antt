-- Worked graphs. Blocks 0 to 5: 0 is the parent of 1, 1 of 2, 2 of 3, 2 of 4, 4 of 5. The base is block 1.
use mathlib.Core.Bool.{true, false}
use mathlib.Core.List.{List, [], ◌∷◌}
use mathlib.Core.Path.{◌≡◌, refl}
use Prim.Native.Nat.{ℕ}
use lib.ListN.{replicate}
use Rattle.loops.specs.All.{all}
use Rattle.loops.specs.Listing.{fold, front}
use Rattle.columns.specs.Blank.{blank}
use Rattle.grandpa.specs.Tree.{within, below}
use Rattle.graph.specs.Search.{until, nearest}
use Rattle.nodes.specs.Columns.{Columns}
use Rattle.graph_sweeps.specs.Swept.{inside, tied}
use Rattle.lists.specs.Laid.{struck, none_left, once_each, laid}
use Rattle.graph_lists.specs.Listed.{rising, bare}
use Rattle.graph_shape.specs.Graphed.{counted, graphed}

abbrev parents : List ℕ
parents = 0 ∷ 0 ∷ 1 ∷ 2 ∷ 2 ∷ 4 ∷ replicate 250 0

abbrev ids : List ℕ
ids = 10 ∷ 11 ∷ 12 ∷ 14 ∷ 13 ∷ 15 ∷ replicate 250 0

-- a round just opened: the base is the only node, and the head
abbrev opened : Columns
opened =
    record {
      used = false ∷ true ∷ replicate 254 false;
      above = replicate 256 0;
      rows = replicate 256 (0 ∷ 0 ∷ []);
      order = replicate 256 0;
      listed = 0;
      heads = 1 ∷ replicate 255 0;
      tips = 1;
    }

opened_passes : graphed parents ids 1 6 opened ≡ true
unfolding graphed counted inside tied laid once_each none_left struck fold front blank rising bare all below within nearest until
opened_passes = refl

-- votes for blocks 3 and 5, the later first: two numbers each of the listing, the heads and the nodes above
abbrev voted : ℕ → ℕ → ℕ → ℕ → ℕ → ℕ → Columns
voted a b h i x y =
    record {
      used = false ∷ true ∷ false ∷ true ∷ false ∷ true ∷ replicate 250 false;
      above = 0 ∷ 0 ∷ 0 ∷ x ∷ 0 ∷ y ∷ replicate 250 0;
      rows = replicate 256 (0 ∷ 0 ∷ []);
      order = a ∷ b ∷ replicate 254 0;
      listed = 2;
      heads = h ∷ i ∷ replicate 254 0;
      tips = 2;
    }

-- as it is; a place listed twice; heads by falling id; a parent that is no node
voted_passes : (graphed parents ids 1 6 (voted 5 3 3 5 1 1) ≡ true) × (graphed parents ids 1 6 (voted 5 5 3 5 1 1) ≡ false)
    × (graphed parents ids 1 6 (voted 5 3 5 3 1 1) ≡ false) × (graphed parents ids 1 6 (voted 5 3 3 5 1 4) ≡ false)
unfolding graphed counted inside tied laid once_each none_left struck fold front blank rising bare all below within nearest until
voted_passes = (refl, refl, refl, refl)
