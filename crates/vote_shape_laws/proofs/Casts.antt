-- A recorded vote by its column: how many pairs, and the first target.
use mathlib.Core.Bool.{Bool, true, false, ◌&&◌, beq}
use mathlib.Core.List.{List}
use mathlib.Core.Path.{◌≡◌, refl, sym, subst}
use Prim.Native.Nat.{ℕ, zero, suc, ◌≤◌, ◌<◌}
use native.Mathlib.Omega.{arith}
use native.Mathlib.Decide.{dec_lt}
use lib.Dec.{T, ltb}
use lib.ListN.{length, get_or-eq_default}
use borrow.Author.Tests.{lt-ltb, le-ltb}
use Rattle.sizes.specs.Sizes.{VOTES}
use Rattle.grandpa.specs.Tree.{below}
use Rattle.grandpa.specs.Vote.{lands, equivocated}
use Rattle.graph.specs.Shape.{Targets}
use Rattle.nodes.specs.Nodes.{col}
use Rattle.tracker.specs.declared.Votes.{Votes}
use Rattle.tracker.specs.Recorded.{cast_of, cast}
use Rattle.vote_bits.proofs.Sames.{beq_refl}

pub past : (xs : List ℕ) (n j : ℕ) → length xs ≡ n → n ≤ j → col xs j ≡ 0
past xs n j s h = get_or-eq_default xs 0 (omega arith)

pub eq_beq : (a b : Bool) → a ≡ b → T (beq a b)
eq_beq a b e = subst (λ (z : Bool). T (beq a z)) e (beq_refl a)

lands_of : (up : ℕ → ℕ) (x n t : ℕ) → lands up x (cast_of n t) ≡ (ltb 0 n && below up x t)
lands_of up x zero t = refl
lands_of up x (suc zero) t = refl
lands_of up x (suc (suc n)) t = rw (lt-ltb 0 (suc (suc n)) (omega arith))

twice_of : (n t : ℕ) → equivocated (cast_of n t) ≡ ltb 1 n
twice_of zero t = refl
twice_of (suc zero) t = refl
twice_of (suc (suc n)) t = sym (lt-ltb 1 (suc (suc n)) (omega arith))

aim_of : (n t x : ℕ) → Targets (cast_of n t) x → (0 < n) × (t ≡ x)
aim_of zero t x a = absurd a
aim_of (suc zero) t x a = (omega arith, a)
aim_of (suc (suc n)) t x a = (omega arith, a)

of_aim : (n t x : ℕ) → 0 < n → t ≡ x → Targets (cast_of n t) x
of_aim zero t x h e = absurd (omega arith)
of_aim (suc zero) t x h e = e
of_aim (suc (suc n)) t x h e = e

module _ (v : Votes) (j : ℕ) where
  pub lands_cast : (up : ℕ → ℕ) (x : ℕ) → lands up x (cast v j) ≡ (ltb 0 (col v.counts j) && below up x (col v.first_block j))
  unfolding cast
  lands_cast up x = lands_of up x (col v.counts j) (col v.first_block j)

  pub twice_cast : equivocated (cast v j) ≡ ltb 1 (col v.counts j)
  unfolding cast
  twice_cast = twice_of (col v.counts j) (col v.first_block j)

  pub aim_cast : (x : ℕ) → Targets (cast v j) x → (0 < col v.counts j) × (col v.first_block j ≡ x)
  unfolding cast
  aim_cast x a = aim_of (col v.counts j) (col v.first_block j) x a

  pub cast_aim : (x : ℕ) → 0 < col v.counts j → col v.first_block j ≡ x → Targets (cast v j) x
  unfolding cast
  cast_aim x h e = of_aim (col v.counts j) (col v.first_block j) x h e

  -- an index with a pair is within the column
  pub spoken_in : length v.counts ≡ VOTES → 0 < col v.counts j → j < VOTES
  spoken_in s h = go (dec_lt j VOTES)
    where
      go : Dec (j < VOTES) → j < VOTES
      go (yes l) = l
      go (no l) = absurd (let z : col v.counts j ≡ 0 = get_or-eq_default v.counts 0 (omega arith) in omega arith)
