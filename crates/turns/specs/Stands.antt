-- What a journal's states are known to be. The third turn is said of any P that an opened round has and that votes and blocks keep: the
-- shape rules, or being reached by calls.
use Rattle.std.specs.Prelude.{◌≤◌}
use Rattle.sizes.specs.Sizes.{PAIRS}
use Rattle.weights.specs.Weights.{most}
use Rattle.voter_set.specs.Good.{Good}
use Rattle.block_shape.specs.Shape.{Shaped}
use Rattle.importing.specs.Import.{Frame, Held}
use Rattle.turns.specs.Turns.{Journal, pairing, growing, voting}

abbrev pub Stands : (Frame → Held → Type 0) → Journal → Type 0
Stands P (pairing p) = p.count ≤ PAIRS
Stands P (growing v t) = (Good v) × (v.total ≤ most) × (Shaped t)
Stands P (voting r) = P r.frame r.held
