-- What the descent to a merge point asks of its places. Document 01, "Sizes": below means further from the root.
use Rattle.std.specs.Prelude.{List, ℕ, ◌<◌, T}
use Rattle.loops.specs.Listing.{times}
use Rattle.graph.specs.Ghost.{under}
use Rattle.climbs.specs.Places.{col}

-- places that all lie strictly below a block
abbrev pub Lower : List ℕ → ℕ → List ℕ → Type 0
Lower parents b ns = (n : ℕ) → 0 < times n ns → T (under (col parents) b n)
