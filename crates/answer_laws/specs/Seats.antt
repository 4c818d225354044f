-- Document 01, "Shape rules": stored blocks in the table, at or below the base.
use Rattle.std.specs.Prelude.{List, ℕ, ◌<◌, T, Option, Some, None}
use Rattle.grandpa.specs.Tree.{below}
use Rattle.nodes.specs.Nodes.{col}
use Rattle.answers.specs.declared.Answers.{Answers}

abbrev pub Seated : List ℕ → ℕ → ℕ → Option ℕ → Type 0
Seated parents base count None = Unit {0}
Seated parents base count (Some b) = (b < count) × T (below (col parents) base b)

pub record AllSeated (parents : List ℕ) (base count : ℕ) (a : Answers) : Type 0 where
  pub prevote : Seated parents base count a.prevote
  pub precommit : Seated parents base count a.precommit
  pub finalized : Seated parents base count a.finalized
  pub estimate : Seated parents base count a.estimate
