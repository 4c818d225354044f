-- Document 01, "Weights and bits". Votes as bits, over any number of words; weights over VOTERS places.
use Rattle.std.specs.Prelude.{Bool, cond, List, ℕ, min, eqb, get_or}
use Rattle.sizes.specs.Sizes.{VOTERS}
use Rattle.loops.specs.Sum.{weigh}
use Rattle.weights.specs.Weights.{most}
use Rattle.bitfield.specs.Bits.{has}
use Rattle.layouts.specs.Layout.{index, index_phase}
use Rattle.context.specs.declared.Phase.{Phase}
use Rattle.context.specs.declared.Phase.TheVariants.{Prevote, Precommit}

-- the phases by number, as `layouts` has them
abbrev pub offset : Phase → ℕ
offset Prevote = 0
offset Precommit = 1

-- the bit of the voter at a place in a phase, which is also the index of its votes
unfoldable pub bit : Phase → ℕ → ℕ
bit phase place = index (offset phase) place

-- the phase of an index
unfoldable pub phase_at : ℕ → Phase
phase_at j = cond (eqb (index_phase j) 0) Prevote Precommit

-- whether the voter at a place voted in a phase
unfoldable pub voted : List ℕ → Phase → ℕ → Bool
voted bits phase place = has bits (bit phase place)

-- the weight of the voters in s: weights add with saturation, and unused places of the column hold 0
unfoldable pub weight_of : List ℕ → (ℕ → Bool) → ℕ
weight_of weights s = min (weigh VOTERS s (λ p. get_or weights p 0)) most

-- voters heard in a phase
unfoldable pub voters_heard_in : List ℕ → Phase → ℕ
voters_heard_in bits phase = weigh VOTERS (voted bits phase) (λ p. 1)
