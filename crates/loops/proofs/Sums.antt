-- Sums over places below n, and weights of sets of places. Each law on weights is a fact about one place, lifted.
use mathlib.Core.Bool.{Bool, true, false, cond, not, ◌&&◌, ◌||◌}
use mathlib.Core.Path.{◌≡◌, refl, sym, ap, ◌∙◌}
use mathlib.Core.Logic.{◌≢◌}
use Prim.Native.Nat.{ℕ, zero, suc, ◌+◌, ◌-◌, ◌*◌, ◌≤◌, ◌<◌}
use native.Mathlib.Numerals.{add-one}
use native.Mathlib.Nat.{add-zero, add-suc}
use native.Mathlib.Decide.{ℕ_discrete}
use native.Mathlib.Omega.{arith}
use lib.Dec.{T, eqb}
use borrow.Author.Tests.{eq-eqb, ne_eqb}
use Rattle.loops.specs.Sum.{sum, weigh}

pub sum_none : (f : ℕ → ℕ) → sum 0 f ≡ 0
unfolding sum
sum_none f = refl

pub sum_more : (n : ℕ) (f : ℕ → ℕ) → sum (n + 1) f ≡ sum n f + f n
unfolding sum
sum_more n f = rw add-one

pub sum_cong : (n : ℕ) (f g : ℕ → ℕ) → ((k : ℕ) → k < n → f k ≡ g k) → sum n f ≡ sum n g
unfolding sum
sum_cong zero f g h = refl
sum_cong (suc n) f g h = omega (arith, sum_cong n f g (λ k l. h k (omega arith)), h n (omega arith))

pub sum_mono : (n : ℕ) (f g : ℕ → ℕ) → ((k : ℕ) → k < n → f k ≤ g k) → sum n f ≤ sum n g
unfolding sum
sum_mono zero f g h = omega arith
sum_mono (suc n) f g h = omega (arith, sum_mono n f g (λ k l. h k (omega arith)), h n (omega arith))

pub sum_add : (n : ℕ) (f g : ℕ → ℕ) → sum n (λ k. f k + g k) ≡ sum n f + sum n g
unfolding sum
sum_add zero f g = refl
sum_add (suc n) f g = omega (arith, sum_add n f g)

pub sum_zero : (n : ℕ) (f : ℕ → ℕ) → ((k : ℕ) → k < n → f k ≡ 0) → sum n f ≡ 0
unfolding sum
sum_zero zero f h = refl
sum_zero (suc n) f h = omega (arith, sum_zero n f (λ k l. h k (omega arith)), h n (omega arith))

-- one place is at most the whole
pub sum_at : (n : ℕ) (f : ℕ → ℕ) (k : ℕ) → k < n → f k ≤ sum n f
unfolding sum
sum_at zero f k h = absurd (omega arith)
sum_at (suc n) f k h = go (ℕ_discrete k n) (sum_at n f k)
  where
    go : Dec (k ≡ n) → (k < n → f k ≤ sum n f) → f k ≤ sum n f + f n
    go (yes e) r = omega (arith, ap f e)
    go (no e) r = omega (arith, r (omega arith))

-- a sum that is not 0 has a place that is not
pub sum_some : (n : ℕ) (f : ℕ → ℕ) → 0 < sum n f → (k : ℕ) × (k < n) × (0 < f k)
unfolding sum
sum_some zero f h = absurd (omega arith)
sum_some (suc n) f h = go (ℕ_discrete (f n) 0) (sum_some n f)
  where
    go : Dec (f n ≡ 0) → (0 < sum n f → (k : ℕ) × (k < n) × (0 < f k)) → (k : ℕ) × (k < suc n) × (0 < f k)
    go (yes e) r = let s = r (omega arith) in (s.0, omega (arith, s.1), s.2)
    go (no e) r = (n, omega arith, omega arith)

-- the first place and the rest
pub sum_first : (n : ℕ) (f : ℕ → ℕ) → sum (suc n) f ≡ f 0 + sum n (λ k. f (suc k))
unfolding sum
sum_first zero f = omega arith
sum_first (suc n) f = omega (arith, sum_first n f)

-- the first n places and m more
pub sum_split : (n m : ℕ) (f : ℕ → ℕ) → sum (n + m) f ≡ sum n f + sum m (λ k. f (n + k))
unfolding sum
sum_split n zero f = rw (add-zero n) (omega arith)
sum_split n (suc m) f = rw (add-suc n m) (omega (arith, sum_split n m f))

-- the places below n that a sum over more of them counts, where the rest are 0
pub sum_short : (n m : ℕ) (f : ℕ → ℕ) → ((k : ℕ) → n ≤ k → f k ≡ 0) → sum (n + m) f ≡ sum n f
sum_short n m f h = omega (arith, sum_split n m f, sum_zero m (λ k. f (n + k)) (λ k l. h (n + k) (omega arith)))

-- two places at a time
pub sum_pairs : (n : ℕ) (f : ℕ → ℕ) → sum (2 * n) f ≡ sum n (λ k. f (2 * k) + f (2 * k + 1))
unfolding sum
sum_pairs zero f = refl
sum_pairs (suc n) f =
    let d : 2 * suc n ≡ suc (suc (2 * n)) = omega arith in
    let e : 2 * n + 1 ≡ suc (2 * n) = omega arith in
    rw (d, e) (omega (arith, sum_pairs n f))

-- fewer places sum to at most as much
pub sum_fewer : (m n : ℕ) (f : ℕ → ℕ) → m ≤ n → sum m f ≤ sum n f
sum_fewer m n f h =
    let e : n ≡ m + (n - m) = omega arith in
    rw e (omega (arith, sum_split m (n - m) f))

-- a place changes and the others below n stay
pub sum_change_in : (n : ℕ) (f g : ℕ → ℕ) (p : ℕ) → p < n → ((k : ℕ) → k < n → k ≢ p → f k ≡ g k) → sum n f + g p ≡ sum n g + f p
unfolding sum
sum_change_in zero f g p h same = absurd (omega arith)
sum_change_in (suc n) f g p h same = go (ℕ_discrete p n) (sum_change_in n f g p)
  where
    go : Dec (p ≡ n) → (p < n → ((k : ℕ) → k < n → k ≢ p → f k ≡ g k) → sum n f + g p ≡ sum n g + f p)
        → sum n f + f n + g p ≡ sum n g + g n + f p
    go (yes e) r = omega (arith, ap f e, ap g e, sum_cong n f g (λ k l. same k (omega arith) (λ q. omega arith)))
    go (no e) r = omega (arith, r (omega arith) (λ k l q. same k (omega arith) q), same n (omega arith) (λ q. omega arith))

pub sum_change : (n : ℕ) (f g : ℕ → ℕ) (p : ℕ) → p < n → ((k : ℕ) → k ≢ p → f k ≡ g k) → sum n f + g p ≡ sum n g + f p
sum_change n f g p h same = sum_change_in n f g p h (λ k l q. same k q)

-- two places change places
pub sum_swap : (n : ℕ) (f g : ℕ → ℕ) (i j : ℕ) → i < n → j < n → f i ≡ g j → f j ≡ g i → ((k : ℕ) → k ≢ i → k ≢ j → f k ≡ g k)
    → sum n f ≡ sum n g
sum_swap n f g i j a b p q same = go (ℕ_discrete i j)
  where
    half : ℕ → ℕ
    half k = cond (eqb k i) (g i) (f k)

    half_at : half i ≡ g i
    half_at = rw (eq-eqb i i refl)

    half_off : (k : ℕ) → k ≢ i → half k ≡ f k
    half_off k h = rw (ne_eqb k i h)

    go : Dec (i ≡ j) → sum n f ≡ sum n g
    go (yes e) = sum_cong n f g (λ k l. at k (ℕ_discrete k i))
      where
        at : (k : ℕ) → Dec (k ≡ i) → f k ≡ g k
        at k (yes d) = ap f d ∙ p ∙ ap g (sym e) ∙ ap g (sym d)
        at k (no d) = same k d (λ r. d (r ∙ sym e))
    go (no e) =
        omega (
          arith,
          sum_change n f half i a (λ k h. sym (half_off k h)),
          sum_change n half g j b (λ k h. rest k h (ℕ_discrete k i)),
          half_at,
          half_off j (λ r. e (sym r)),
          p,
          q,
        )
      where
        rest : (k : ℕ) → k ≢ j → Dec (k ≡ i) → half k ≡ g k
        rest k h (yes d) = ap half d ∙ half_at ∙ ap g (sym d)
        rest k h (no d) = half_off k d ∙ same k d h

module _ (n : ℕ) (w : ℕ → ℕ) where
  pub weigh_cong : (s t : ℕ → Bool) → ((k : ℕ) → k < n → s k ≡ t k) → weigh n s w ≡ weigh n t w
  weigh_cong s t h = sum_cong n _ _ (λ k l. ap (λ (b : Bool). cond b (w k) 0) (h k l))

  pub weigh_mono : (s t : ℕ → Bool) → ((k : ℕ) → k < n → T (s k) → T (t k)) → weigh n s w ≤ weigh n t w
  weigh_mono s t h = sum_mono n _ _ (λ k l. more (s k) (t k) (w k) (h k l))
    where
      more : (a b : Bool) (x : ℕ) → (T a → T b) → cond a x 0 ≤ cond b x 0
      more true true x f = omega arith
      more true false x f = absurd (f tt)
      more false b x f = omega arith

  pub weigh_none : (s : ℕ → Bool) → ((k : ℕ) → k < n → T (s k) → ⊥) → weigh n s w ≡ 0
  weigh_none s h = sum_zero n _ (λ k l. none (s k) (w k) (h k l))
    where
      none : (a : Bool) (x : ℕ) → (T a → ⊥) → cond a x 0 ≡ 0
      none true x f = absurd (f tt)
      none false x f = refl

  pub weigh_every : (s : ℕ → Bool) → ((k : ℕ) → k < n → T (s k)) → weigh n s w ≡ sum n w
  weigh_every s h = sum_cong n _ _ (λ k l. every (s k) (w k) (h k l))
    where
      every : (a : Bool) (x : ℕ) → T a → cond a x 0 ≡ x
      every true x t = refl
      every false x t = absurd t

  pub weigh_le : (s : ℕ → Bool) → weigh n s w ≤ sum n w
  weigh_le s = sum_mono n _ _ (λ k l. most (s k) (w k))
    where
      most : (a : Bool) (x : ℕ) → cond a x 0 ≤ x
      most true x = omega arith
      most false x = omega arith

  -- inclusion and exclusion
  pub weigh_both : (s t : ℕ → Bool) → weigh n s w + weigh n t w ≡ weigh n (λ k. s k || t k) w + weigh n (λ k. s k && t k) w
  weigh_both s t =
      sym (sum_add n _ _) ∙ sum_cong n _ _ (λ k l. parts (s k) (t k) (w k)) ∙ sum_add n _ _
    where
      parts : (a b : Bool) (x : ℕ) → cond a x 0 + cond b x 0 ≡ cond (a || b) x 0 + cond (a && b) x 0
      parts true true x = refl
      parts true false x = refl
      parts false true x = omega arith
      parts false false x = refl

  -- a set and the rest
  pub weigh_not : (s : ℕ → Bool) → weigh n s w + weigh n (λ k. not (s k)) w ≡ sum n w
  weigh_not s = sym (sum_add n _ _) ∙ sum_cong n _ _ (λ k l. parts (s k) (w k))
    where
      parts : (a : Bool) (x : ℕ) → cond a x 0 + cond (not a) x 0 ≡ x
      parts true x = omega arith
      parts false x = omega arith

  -- one place more
  pub weigh_put_in : (s t : ℕ → Bool) (p : ℕ) → p < n → T (not (s p)) → T (t p) → ((k : ℕ) → k < n → k ≢ p → s k ≡ t k)
      → weigh n t w ≡ weigh n s w + w p
  weigh_put_in s t p h out into same =
      omega (arith, sum_change_in n _ _ p h (λ k l q. ap (λ (b : Bool). cond b (w k) 0) (same k l q)), held (t p) (w p) into, gone (s p) (w p) out)
    where
      held : (a : Bool) (x : ℕ) → T a → cond a x 0 ≡ x
      held true x t = refl
      held false x t = absurd t

      gone : (a : Bool) (x : ℕ) → T (not a) → cond a x 0 ≡ 0
      gone true x t = absurd t
      gone false x t = refl

  pub weigh_put : (s t : ℕ → Bool) (p : ℕ) → p < n → T (not (s p)) → T (t p) → ((k : ℕ) → k ≢ p → s k ≡ t k)
      → weigh n t w ≡ weigh n s w + w p
  weigh_put s t p h out into same = weigh_put_in s t p h out into (λ k l q. same k q)
