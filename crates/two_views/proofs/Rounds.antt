-- What the test of a round gives the call: the sum fits, and is the one of the definitions.
use mathlib.Core.Bool.{Bool}
use mathlib.Core.Path.{◌≡◌}
use Prim.Native.Nat.{ℕ, ◌≤◌}
use native.Mathlib.Omega.{arith}
use lib.Dec.{T}
use lib.ListN.{get_or}
use Rattle.sizes.specs.Sizes.{VOTERS}
use Rattle.loops.specs.Sum.{weigh}
use Rattle.loops.proofs.Tests.{true_T, left_of, right_of}
use Rattle.loops.proofs.Sums.{sum_fewer, weigh_le}
use Rattle.weights.specs.Weights.{most}
use Rattle.grandpa.specs.Views.{differ, two_views}
use Rattle.voter_set.specs.Good.{Good, good}
use Rattle.voter_laws.proofs.Goods.{good_means}
use Rattle.vote_graph.specs.Shape.{is_graph}
use Rattle.tracker.specs.Recorded.{cast}
use Rattle.round.specs.declared.Round.{Round}
use Rattle.round.specs.Shape.{shaped}
use Rattle.two_views.specs.Views.{apart, differing, voters, precommits}

module _ (r : Round) (t : T (shaped r)) where
  pub voters_good : Good r.context.voters
  unfolding shaped
  voters_good =
      good_means r.context.voters
      (true_T _ (left_of (good r.context.voters) _ (right_of (is_graph r.graph r.table) _ t)))

  -- the weights of voters of the set sum to at most its total
  pub weight_fits : (s : ℕ → Bool) → weigh (voters r).size s (voters r).weight ≤ r.context.voters.total
  weight_fits s =
      let g = voters_good in
      omega (
        arith,
        weigh_le r.context.voters.count (λ p. get_or r.context.voters.weights p 0) s,
        sum_fewer r.context.voters.count VOTERS (λ p. get_or r.context.voters.weights p 0) g.few,
        g.total_is,
      )

  -- nothing saturates
  pub differing_is : r.context.voters.total ≤ most → (o : Round) (x : ℕ)
      → x ≡ differing r.votes.counts r.votes.first_block o.votes.counts o.votes.first_block r.context.voters.weights r.context.voters.count
      → x ≡ two_views (voters r) (precommits r) (precommits o)
  unfolding differing apart cast
  differing_is h o x e = omega (arith, weight_fits (λ p. differ (precommits r p) (precommits o p)))
