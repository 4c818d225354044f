-- Document 01, "Weights and bits", "How a vote is taken" and "The four answers": what is recorded of a voter in a phase,
-- and the weights made of it. A voter is its place in the set; a phase's votes are a function of the voter.
use Rattle.std.specs.Prelude.{Bool, true, false, not, ◌||◌, ℕ, ◌≤◌, leb}
use Rattle.loops.specs.Sum.{sum, weigh}
use Rattle.loops.specs.All.{any}
use Rattle.grandpa.specs.Weight.{threshold}
use Rattle.grandpa.specs.Tree.{below}

-- none; one, with its target; an equivocation, with the first target
pub data Vote : Type 0 where
  silent : Vote
  once twice : ℕ → Vote

pub record Voters : Type 0 where
  pub size : ℕ
  pub weight : ℕ → ℕ

abbrev pub total : Voters → ℕ
total vs = sum vs.size vs.weight

-- a vote is recorded
abbrev pub spoke : Vote → Bool
spoke silent = false
spoke (once t) = true
spoke (twice t) = true

abbrev pub equivocated : Vote → Bool
equivocated silent = false
equivocated (once t) = false
equivocated (twice t) = true

-- equivocated, or the recorded vote targets b or a descendant
abbrev pub backs : (ℕ → ℕ) → ℕ → Vote → Bool
backs up b silent = false
backs up b (once t) = below up b t
backs up b (twice t) = true

-- the first vote's target is b or a descendant
abbrev pub lands : (ℕ → ℕ) → ℕ → Vote → Bool
lands up b silent = false
lands up b (once t) = below up b t
lands up b (twice t) = below up b t

-- heard weight: the voters with a recorded vote, each once
abbrev pub heard : Voters → (ℕ → Vote) → ℕ
heard vs v = weigh vs.size (λ i. spoke (v i)) vs.weight

-- unheard weight: the voters with none
abbrev pub unheard : Voters → (ℕ → Vote) → ℕ
unheard vs v = weigh vs.size (λ i. not (spoke (v i))) vs.weight

abbrev pub equivocators : Voters → (ℕ → Vote) → ℕ
equivocators vs v = weigh vs.size (λ i. equivocated (v i)) vs.weight

-- phase weight of block b: voters, each once, who equivocated in the phase or whose recorded vote targets b or a descendant
abbrev pub phase_weight : Voters → (ℕ → ℕ) → (ℕ → Vote) → ℕ → ℕ
phase_weight vs up v b = weigh vs.size (λ i. backs up b (v i)) vs.weight

-- phase weight of T or more
abbrev pub weighty : Voters → (ℕ → ℕ) → (ℕ → Vote) → ℕ → Bool
weighty vs up v b = leb (threshold (total vs)) (phase_weight vs up v b)

-- a vote-node stands at or below b: vote-nodes are the base and the targets of first votes ("Shape rules"), and the base
-- is below no block that is asked
abbrev pub noded : Voters → (ℕ → ℕ) → (ℕ → Vote) → (ℕ → Vote) → ℕ → Bool
noded vs up pv pc b = any vs.size (λ i. lands up b (pv i) || lands up b (pc i))
