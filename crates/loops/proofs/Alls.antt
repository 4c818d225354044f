-- What a test of every place, or of some place, means.
use mathlib.Core.Bool.{Bool, true, false, not, ◌&&◌, ◌||◌}
use mathlib.Core.Path.{◌≡◌, refl, subst}
use mathlib.Core.Logic.{◌⊎◌, inl, inr, ⊎_elim}
use Prim.Native.Nat.{ℕ, zero, suc, ◌+◌, ◌≤◌, ◌<◌}
use native.Mathlib.Numerals.{add-one}
use native.Mathlib.Decide.{ℕ_discrete}
use native.Mathlib.Omega.{arith}
use lib.Dec.{T}
use Rattle.loops.specs.All.{all, any}
use Rattle.loops.proofs.Tests.{both, left_of, right_of, in_left, in_right, either, true_T, T_true}

module _ (p : ℕ → Bool) where
  pub all_at : (n : ℕ) → T (all n p) → (k : ℕ) → k < n → T (p k)
  unfolding all
  all_at zero t k h = absurd (omega arith)
  all_at (suc n) t k h = go (ℕ_discrete k n) (all_at n (right_of (p n) (all n p) t) k)
    where
      go : Dec (k ≡ n) → (k < n → T (p k)) → T (p k)
      go (yes e) f = subst (λ (j : ℕ). T (p j)) (sym_of e) (left_of (p n) (all n p) t)
        where
          sym_of : k ≡ n → n ≡ k
          sym_of q = omega arith
      go (no e) f = f (omega arith)

  pub all_intro : (n : ℕ) → ((k : ℕ) → k < n → T (p k)) → T (all n p)
  unfolding all
  all_intro zero f = tt
  all_intro (suc n) f = both (p n) (all n p) (f n (omega arith)) (all_intro n (λ k h. f k (omega arith)))

  -- the turns of a loop that tests each place and leaves at the first that fails
  pub all_none : all 0 p ≡ true
  unfolding all
  all_none = refl

  pub all_more : (n : ℕ) → all n p ≡ true → p n ≡ true → all (n + 1) p ≡ true
  unfolding all
  all_more n h e = rw (add-one, e, h)

  pub all_false : (n k : ℕ) → k < n → p k ≡ false → all n p ≡ false
  unfolding all
  all_false zero k h e = absurd (omega arith)
  all_false (suc n) k h e = go (ℕ_discrete k n) (p n) refl (all_false n k)
    where
      go : Dec (k ≡ n) → (b : Bool) → p n ≡ b → (k < n → p k ≡ false → all n p ≡ false) → (b && all n p) ≡ false
      go d false q f = refl
      go (yes i) true q f = absurd (T_false_true (subst (λ (j : ℕ). p j ≡ false) i e) q)
        where
          T_false_true : p n ≡ false → p n ≡ true → ⊥
          T_false_true a b = let z : ◌≡◌ {A = ℕ} 0 1 = cc in omega arith
      go (no i) true q f = f (omega arith) e

  -- the turns of a loop that looks at each place without an early exit
  pub all_turn : (n : ℕ) → (p n && all n p) ≡ all (n + 1) p
  unfolding all
  all_turn n = rw add-one

  pub any_at : (n : ℕ) → T (any n p) → (k : ℕ) × (k < n) × T (p k)
  unfolding any
  any_at zero t = absurd t
  any_at (suc n) t = go (either (p n) (any n p) t) (any_at n)
    where
      go : T (p n) ⊎ T (any n p) → (T (any n p) → (k : ℕ) × (k < n) × T (p k)) → (k : ℕ) × (k < suc n) × T (p k)
      go (inl h) f = (n, omega arith, h)
      go (inr h) f = let r = f h in (r.0, omega (arith, r.1), r.2)

  pub any_intro : (n k : ℕ) → k < n → T (p k) → T (any n p)
  unfolding any
  any_intro zero k h t = absurd (omega arith)
  any_intro (suc n) k h t = go (ℕ_discrete k n) (any_intro n k)
    where
      go : Dec (k ≡ n) → (k < n → T (p k) → T (any n p)) → T (p n || any n p)
      go (yes e) f = in_left (p n) (any n p) (subst (λ (j : ℕ). T (p j)) e t)
      go (no e) f = in_right (p n) (any n p) (f (omega arith) t)

  -- the turns of a loop that looks at each place without an early exit
  pub any_none : false ≡ any 0 p
  unfolding any
  any_none = refl

  pub any_more : (n : ℕ) → (p n || any n p) ≡ any (n + 1) p
  unfolding any
  any_more n = rw add-one

  pub all_next : (n : ℕ) → (p n && all n p) ≡ all (n + 1) p
  unfolding all
  all_next n = rw add-one

-- tests that agree below n agree
pub all_cong : (n : ℕ) (p q : ℕ → Bool) → ((k : ℕ) → k < n → p k ≡ q k) → all n p ≡ all n q
unfolding all
all_cong zero p q h = refl
all_cong (suc n) p q h = rw (h n (omega arith), all_cong n p q (λ k l. h k (omega arith)))

pub any_cong : (n : ℕ) (p q : ℕ → Bool) → ((k : ℕ) → k < n → p k ≡ q k) → any n p ≡ any n q
unfolding any
any_cong zero p q h = refl
any_cong (suc n) p q h = rw (h n (omega arith), any_cong n p q (λ k l. h k (omega arith)))
