-- What is said of a round beside the facts of its shape. Document 01, "Shape rules": counts within sizes.
use Rattle.std.specs.Prelude.{◌≤◌, T}
use Rattle.weights.specs.Weights.{most}
use Rattle.round.specs.declared.Round.{Round}
use Rattle.round.specs.Shape.{index_fits}

-- the sum of the weights is a u64, which the type says of a round in code
abbrev pub Fits : Round → Type 0
Fits r = r.context.voters.total ≤ most

-- a set index is at most HISTORY
pub record Marked (r : Round) : Type 0 where
  pub prevoted : T (index_fits r.history.prevoted)
  pub precommitted : T (index_fits r.history.precommitted)
