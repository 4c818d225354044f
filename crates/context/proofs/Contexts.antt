-- Votes and contexts by `voted`: what a vote's bit is, who counts after an equivocation, and what a set's good column gives.
use mathlib.Core.Bool.{Bool, true, ◌&&◌, ◌||◌}
use mathlib.Core.List.{List}
use mathlib.Core.Path.{◌≡◌, refl, sym, ◌∙◌}
use Prim.Native.Nat.{ℕ, ◌*◌, ◌≤◌, ◌<◌}
use native.Mathlib.Omega.{arith}
use lib.Dec.{eqb}
use lib.ListN.{length, get_or}
use Rattle.sizes.specs.Sizes.{WORDS, VOTERS}
use Rattle.loops.specs.Sum.{weigh}
use Rattle.loops.proofs.Tests.{or_false}
use Rattle.weights.specs.Weights.{most}
use Rattle.voter_set.specs.declared.VoterSet.{VoterSet}
use Rattle.voter_set.specs.Good.{Good}
use Rattle.bitfield.specs.Bits.{put, blank}
use Rattle.bitfield.proofs.Sets.{put_past}
use Rattle.context.specs.declared.Phase.{Phase}
use Rattle.context.specs.declared.VoteNode.{VoteNode}
use Rattle.context.specs.declared.Context.{Context}
use Rattle.context.specs.Votes.{bit, voted, weight_of, voters_heard_in}
use Rattle.context.specs.Context.{vote, opened, with_node, with_vote, with_equivocator, counts}
use Rattle.context.proofs.Places.{same_phase, bit_few, bit_outside}
use Rattle.context.proofs.Votes.{Holds, holds_voters, voted_none, voted_blank, voted_joined, voted_put, exact, weigh_voters}

-- the vote of a voter of the set has the bit of its place
pub vote_bit : (phase : Phase) (place : ℕ) → place < VOTERS → (vote phase place).bit.position ≡ bit phase place
vote_bit phase place h = omega (arith, bit_few phase place h)

-- no vote comes from a place past the voters of the words
pub vote_outside : (phase : Phase) (place : ℕ) (bits : List ℕ) (n : ℕ) → Holds bits n → n ≤ place → 64 * length bits ≤ most
    → put bits (vote phase place).bit.position ≡ bits
vote_outside phase place bits n room h f =
    put_past bits (vote phase place).bit.position (omega (arith, room.words, bit_outside n room.whole phase place h))

module _ (node : VoteNode) (two : length node.bits ≡ WORDS) where
  pub voted_with_vote : (phase : Phase) (place : ℕ) → place < VOTERS → (other : Phase) (q : ℕ)
      → voted (with_vote node (vote phase place)).bits other q ≡ (voted node.bits other q || (same_phase other phase && eqb q place))
  voted_with_vote phase place h other q = rw (vote_bit phase place h) (voted_put node.bits VOTERS (holds_voters node.bits two) phase place h other q)

  pub voted_with_node : (more : VoteNode) → length more.bits ≡ WORDS → (phase : Phase) (q : ℕ)
      → voted (with_node node more).bits phase q ≡ (voted node.bits phase q || voted more.bits phase q)
  voted_with_node more e phase q = voted_joined phase q node.bits more.bits (two ∙ sym e)

-- no equivocator counts in a blank set: the Rust asks this first and leaves the joining out
pub counts_blank : (c : Context) → blank c.equivocations ≡ true → (node : VoteNode) (phase : Phase) (q : ℕ)
    → counts c node phase q ≡ voted node.bits phase q
counts_blank c h node phase q = rw (voted_blank phase q c.equivocations h) (or_false (voted node.bits phase q))

-- nobody has equivocated in a new context
pub counts_opened : (voters : VoterSet) (node : VoteNode) (phase : Phase) (q : ℕ) → counts (opened voters) node phase q ≡ voted node.bits phase q
counts_opened voters node phase q = rw (voted_none phase q 2) (or_false (voted node.bits phase q))

pub voted_equivocator : (c : Context) → length c.equivocations ≡ WORDS → (phase : Phase) (place : ℕ) → place < VOTERS → (other : Phase) (q : ℕ)
    → voted (with_equivocator c phase place).equivocations other q ≡ (voted c.equivocations other q || (same_phase other phase && eqb q place))
voted_equivocator c two phase place h other q =
    rw (vote_bit phase place h) (voted_put c.equivocations VOTERS (holds_voters c.equivocations two) phase place h other q)

-- in a good set, whose total fits a weight, weights are sums over the voters
pub weight_good : (vs : VoterSet) → Good vs → vs.total ≤ most → (s : ℕ → Bool)
    → weight_of vs.weights s ≡ weigh vs.count s (λ p. get_or vs.weights p 0)
weight_good vs g fits s =
    exact vs.weights (omega (arith, g.total_is)) s ∙ weigh_voters vs.weights vs.count g.few g.no_weight s

-- voters heard are a sum too
pub heard_sum : (bits : List ℕ) (phase : Phase) → voters_heard_in bits phase ≡ weigh VOTERS (voted bits phase) (λ p. 1)
unfolding voters_heard_in
heard_sum bits phase = refl
