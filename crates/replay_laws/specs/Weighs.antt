-- Document 01, "Refusal numbers", 3: no non-zero weight. Once the voter set is made, its voters weigh something.
use Rattle.std.specs.Prelude.{◌<◌}
use Rattle.turns.specs.Turns.{Journal, pairing, growing, voting}

abbrev pub Weighs : Journal → Type 0
Weighs (pairing p) = Unit {0}
Weighs (growing v t) = 0 < v.total
Weighs (voting r) = 0 < r.frame.voters.total
