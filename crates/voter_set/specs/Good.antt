-- The shape rules of a voter set, as a test and as what it means. Document 01, "Refusal numbers", "Shape rules": counts
-- within sizes; voter ids rising, weights non-zero, total and T as above; unused places 0.
use Rattle.std.specs.Prelude.{Bool, ◌≡◌, ℕ, ◌≤◌, ◌<◌, length, get_or}
use Rattle.sizes.specs.Sizes.{VOTERS}
use Rattle.loops.specs.Sum.{sum}
use Rattle.grandpa.specs.Weight.{threshold}
use Rattle.voter_shape.specs.Sound.{sound}
use Rattle.voter_set.specs.declared.VoterSet.{VoterSet}

abbrev pub good : VoterSet → Bool
good s = sound s.ids s.weights s.count s.threshold s.total

-- what the test says (`good_means` of voter_laws)
pub record Good (s : VoterSet) : Type 0 where
  pub ids_sized : length s.ids ≡ VOTERS
  pub weights_sized : length s.weights ≡ VOTERS
  pub few : s.count ≤ VOTERS
  pub ids_rise : (j k : ℕ) → j < k → k < s.count → get_or s.ids j 0 < get_or s.ids k 0
  pub weigh_some : (k : ℕ) → k < s.count → 0 < get_or s.weights k 0
  pub no_id : (k : ℕ) → s.count ≤ k → get_or s.ids k 0 ≡ 0
  pub no_weight : (k : ℕ) → s.count ≤ k → get_or s.weights k 0 ≡ 0
  pub total_is : s.total ≡ sum VOTERS (λ k. get_or s.weights k 0)
  pub threshold_is : s.threshold ≡ threshold s.total
