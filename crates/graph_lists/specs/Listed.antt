-- The shape rules of a vote graph's heads and bits. Document 01, "Shape rules": heads the nodes that list none; unused places
-- 0. The Rust keeps heads by rising id.
use Rattle.std.specs.Prelude.{Bool, ◌&&◌, ◌||◌, List, ℕ, ◌-◌, eqb, ltb, get_or}
use Rattle.sizes.specs.Sizes.{BLOCKS}
use Rattle.loops.specs.All.{all}
use Rattle.lists.specs.Laid.{struck}
use Rattle.nodes.specs.Nodes.{col, flag, row}

-- the nodes that list none: no listed node has them above it
abbrev pub childless : List Bool → List ℕ → List ℕ → List Bool
childless used above order = struck (col above) order used

-- each head's id is above the one before
unfoldable pub rising : List ℕ → List ℕ → ℕ → Bool
rising ids heads tips = all tips (λ k. eqb k 0 || ltb (col ids (col heads (k - 1))) (col ids (col heads k)))

abbrev pub zero_bits : List ℕ → Bool
zero_bits bits = eqb (get_or bits 0 0) 0 && eqb (get_or bits 1 0) 0

-- no bits where there is no node
unfoldable pub bare : List Bool → List (List ℕ) → Bool
bare used rows = all BLOCKS (λ k. flag used k || zero_bits (row rows k))
