-- The ways through the code: one voter's votes, a turn of the sum.
use mathlib.Core.Bool.{Bool, true, false, cond, not}
use mathlib.Core.List.{List}
use mathlib.Core.Path.{◌≡◌, refl, ap}
use Prim.Native.Nat.{ℕ, zero, suc, ◌+◌, ◌≤◌, ◌<◌}
use native.Mathlib.Omega.{arith}
use lib.Dec.{eqb}
use lib.ListN.{get_or}
use Rattle.loops.proofs.Sums.{sum_none, sum_more}
use Rattle.weights.specs.Weights.{plus}
use Rattle.grandpa.specs.Vote.{silent}
use Rattle.grandpa.specs.Views.{differ}
use Rattle.context.specs.declared.Phase.TheVariants.{Precommit}
use Rattle.context.specs.Votes.{bit}
use Rattle.nodes.specs.Nodes.{col}
use Rattle.tracker.specs.Recorded.{cast_of}
use Rattle.two_views.specs.Views.{apart, differing}

module _ (counts first_block others theirs : List ℕ) where
  -- one voter: the votes at an index, by how often it voted
  pub apart_twice : (j : ℕ) → 1 < col counts j → apart counts first_block others theirs j ≡ true
  unfolding apart
  apart_twice j h = go (col counts j) h
    where
      go : (n : ℕ) → 1 < n → differ (cast_of n (col first_block j)) (cast_of (col others j) (col theirs j)) ≡ true
      go zero l = absurd (omega arith)
      go (suc zero) l = absurd (omega arith)
      go (suc (suc n)) l = refl

  pub apart_twice_there : (j : ℕ) → col counts j ≤ 1 → 1 < col others j → apart counts first_block others theirs j ≡ true
  unfolding apart
  apart_twice_there j h k = go (col counts j) (col others j) h k
    where
      go : (n m : ℕ) → n ≤ 1 → 1 < m → differ (cast_of n (col first_block j)) (cast_of m (col theirs j)) ≡ true
      go n zero h l = absurd (omega arith)
      go n (suc zero) h l = absurd (omega arith)
      go zero (suc (suc m)) h l = refl
      go (suc zero) (suc (suc m)) h l = refl
      go (suc (suc n)) (suc (suc m)) h l = refl

  pub apart_silent : (j : ℕ) → col counts j ≡ 0 → col others j ≤ 1 → apart counts first_block others theirs j ≡ false
  unfolding apart
  apart_silent j e h = rw e (go (col others j) h)
    where
      go : (m : ℕ) → m ≤ 1 → differ silent (cast_of m (col theirs j)) ≡ false
      go zero l = refl
      go (suc zero) l = refl
      go (suc (suc m)) l = absurd (omega arith)

  pub apart_unheard : (j : ℕ) → col counts j ≤ 1 → col others j ≡ 0 → apart counts first_block others theirs j ≡ false
  unfolding apart
  apart_unheard j h e = rw e (go (col counts j) h)
    where
      go : (n : ℕ) → n ≤ 1 → differ (cast_of n (col first_block j)) silent ≡ false
      go zero l = refl
      go (suc zero) l = refl
      go (suc (suc n)) l = absurd (omega arith)

  pub apart_both : (j : ℕ) → col counts j ≡ 1 → col others j ≡ 1 → apart counts first_block others theirs j ≡ not (eqb (col first_block j) (col theirs j))
  unfolding apart
  apart_both j e f = rw (e, f)

  -- a turn of the sum
  module _ (weights : List ℕ) where
    pub differing_none : 0 ≡ differing counts first_block others theirs weights 0
    unfolding differing
    differing_none = omega (arith, sum_none (λ p. cond (apart counts first_block others theirs (bit Precommit p)) (get_or weights p 0) 0))

    pub differing_skip : (k : ℕ) → apart counts first_block others theirs (bit Precommit k) ≡ false
        → differing counts first_block others theirs weights k ≡ differing counts first_block others theirs weights (k + 1)
    unfolding differing
    differing_skip k e =
        omega (arith, sum_more k (λ p. cond (apart counts first_block others theirs (bit Precommit p)) (get_or weights p 0) 0), ap (λ (b : Bool). cond b (get_or weights k 0) 0) e)

    pub differing_more : (k : ℕ) → apart counts first_block others theirs (bit Precommit k) ≡ true
        → plus (differing counts first_block others theirs weights k) (get_or weights k 0) ≡ differing counts first_block others theirs weights (k + 1)
    unfolding differing
    differing_more k e =
        omega (arith, sum_more k (λ p. cond (apart counts first_block others theirs (bit Precommit p)) (get_or weights p 0) 0), ap (λ (b : Bool). cond b (get_or weights k 0) 0) e)
