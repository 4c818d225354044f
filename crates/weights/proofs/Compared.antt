-- What the derived comparisons answer: those of the numbers.
use Rattle.std.proofs.Common.{◌≡◌, refl, eqb}
use Rattle.weights.specs.declared.VoteWeight.{VoteWeight}
use Rattle.weights.specs.declared.VoterWeight.{VoterWeight}
use Rattle.weights.specs.contracts.VoteWeightOrd.TheImpl as votes_ordered
use Rattle.weights.specs.contracts.VoteWeightPartialEq.TheImpl as votes_equal
use Rattle.weights.specs.contracts.VoterWeightPartialEq.TheImpl as voters_equal
use Rattle.weights.specs.Weights.{compared}

pub votes_compared : (a b : VoteWeight) → votes_ordered.ghosts.cmp a b ≡ compared a.0 b.0
votes_compared a b = refl

pub votes_same : (a b : VoteWeight) → votes_equal.ghosts.eq a b ≡ eqb a.0 b.0
votes_same a b = refl

pub voters_same : (a b : VoterWeight) → voters_equal.ghosts.eq a b ≡ eqb a.0 b.0
voters_same a b = refl
