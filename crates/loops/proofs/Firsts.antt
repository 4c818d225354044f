-- What a search finds: the least place that passes, or that none does.
use mathlib.Core.Bool.{Bool}
use mathlib.Core.Path.{◌≡◌, subst, ◌∙◌}
use mathlib.Core.Logic.{◌⊎◌, inl, inr}
use Prim.Native.Nat.{ℕ, zero, suc, ◌+◌, ◌-◌, ◌≤◌, ◌<◌}
use native.Mathlib.Nat.{zero-add, add-zero, add-suc, sub-zero}
use native.Mathlib.Numerals.{add-one}
use native.Mathlib.Decide.{ℕ_discrete}
use native.Mathlib.Omega.{arith}
use lib.Dec.{T}
use Rattle.loops.specs.Loop.{first}
use Rattle.loops.proofs.Tests.{dec_T, true_T, false_not}
use Rattle.loops.proofs.Loops.{first_hit, first_next, first_end}

-- k is the least place that passes, and lies below n
pub record Least (p : ℕ → Bool) (n k : ℕ) : Type 0 where
  pub inside : k < n
  pub passes : T (p k)
  pub before : (j : ℕ) → j < k → T (p j) → ⊥

module _ (p : ℕ → Bool) where
  -- a search meets its least place, or there is none
  pub first_cases : (n : ℕ) → ((k : ℕ) × Least p n k) ⊎ ((j : ℕ) → j < n → T (p j) → ⊥)
  first_cases zero = inr (λ j h t. omega arith)
  first_cases (suc n) = go (first_cases n) (dec_T (p n))
    where
      go : ((k : ℕ) × Least p n k) ⊎ ((j : ℕ) → j < n → T (p j) → ⊥) → Dec (T (p n))
          → ((k : ℕ) × Least p (suc n) k) ⊎ ((j : ℕ) → j < suc n → T (p j) → ⊥)
      go (inl (k, l)) d = inl (k, record { inside = omega (arith, l.inside); passes = l.passes; before = l.before })
      go (inr f) (yes t) = inl (n, record { inside = omega arith; passes = t; before = f })
      go (inr f) (no e) = inr last
        where
          last : (j : ℕ) → j < suc n → T (p j) → ⊥
          last j h t = split (ℕ_discrete j n)
            where
              split : Dec (j ≡ n) → ⊥
              split (yes q) = e (subst (λ (i : ℕ). T (p i)) q t)
              split (no q) = f j (omega arith) t

module _ {A : Type 0} (p : ℕ → Bool) (hit : ℕ → A) (miss : A) where
  -- places that do not pass are passed over
  pub first_skip : (m n k : ℕ) → k + m ≤ n → ((j : ℕ) → j < m → T (p (k + j)) → ⊥)
      → first p hit miss (n - k) k ≡ first p hit miss (n - (k + m)) (k + m)
  first_skip zero n k h f = rw (add-zero k)
  first_skip (suc m) n k h f =
      first_skip m n k (omega arith) (λ j l. f j (omega arith))
      ∙ first_next p hit miss n (k + m) (omega arith) (false_not (p (k + m)) (f m (omega arith)))
      ∙ rw (add-one, add-suc k m)

  -- the same from the start
  pub first_start : (m n : ℕ) → m ≤ n → ((j : ℕ) → j < m → T (p j) → ⊥) → first p hit miss n 0 ≡ first p hit miss (n - m) m
  first_start m n h f =
      rw (zero-add m, sub-zero n) at (first_skip m n 0 (omega arith) (λ j l. rw (zero-add j) (f j l)))

  pub first_least : (n k : ℕ) → Least p n k → first p hit miss n 0 ≡ hit k
  first_least n k l =
      first_start k n (omega (arith, l.inside)) l.before
      ∙ first_hit p hit miss n k l.inside (true_T (p k) l.passes)

  pub first_none : (n : ℕ) → ((j : ℕ) → j < n → T (p j) → ⊥) → first p hit miss n 0 ≡ miss
  first_none n f = first_start n n (omega arith) f ∙ first_end p hit miss n n (omega arith)
