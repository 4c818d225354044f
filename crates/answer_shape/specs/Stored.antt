-- The shape rules of what a round stores beside its votes. Document 01, "Shape rules": stored blocks in the table, at or below the
-- base; heard weights as the recorded votes say. The base's node has the bits of all first votes. The answers themselves are not
-- tested against the votes.
use Rattle.std.specs.Prelude.{Bool, true, ◌&&◌, List, ℕ, eqb, ltb, Option, Some, None}
use Rattle.grandpa.specs.Tree.{below}
use Rattle.context.specs.declared.Phase.TheVariants.{Prevote, Precommit}
use Rattle.context.specs.Votes.{voted, weight_of}
use Rattle.nodes.specs.Nodes.{col}
use Rattle.answers.specs.declared.Answers.{Answers}
use Rattle.answers.specs.declared.Heard.{Heard}

-- a stored block is in the table, at or below the base
abbrev pub stored : List ℕ → ℕ → ℕ → Option ℕ → Bool
stored parents count base None = true
stored parents count base (Some b) = ltb b count && below (col parents) base b

unfoldable pub all_stored : List ℕ → ℕ → ℕ → Answers → Bool
all_stored parents count base a =
    stored parents count base a.prevote
    && (stored parents count base a.precommit
    && (stored parents count base a.finalized && stored parents count base a.estimate))

-- heard weights are those of the voters whose bits the base's node has
unfoldable pub weighed : List ℕ → List ℕ → Heard → Bool
weighed weights root h =
    eqb h.prevote (weight_of weights (voted root Prevote)) && eqb h.precommit (weight_of weights (voted root Precommit))
