-- `below` is an order in which the blocks above a block lie on one line; numbers rise on the way down.
use mathlib.Core.Bool.{Bool, true, false, not, ◌&&◌, ◌||◌}
use mathlib.Core.Path.{◌≡◌, refl, sym, ap, subst, ◌∙◌}
use mathlib.Core.Logic.{◌≢◌, ◌⊎◌, inl, inr}
use Prim.Native.Nat.{ℕ, zero, suc, pred, ◌+◌, ◌-◌, ◌≤◌, ◌<◌}
use native.Mathlib.Decide.{ℕ_discrete}
use native.Mathlib.Nat.{zero-add}
use native.Mathlib.Omega.{arith}
use lib.Dec.{T, eqb, ltb, eqb→eq, eqb_refl, ltb→lt, lt→ltb}
use Rattle.loops.proofs.Tests.{both, left_of, right_of, in_left, in_right, either, le_or_lt, same_test}
use Rattle.grandpa.specs.Tree.{Blocks, Tabled, climb, within, below, child}

within_steps : (up : ℕ → ℕ) (f a b : ℕ) → T (within up f a b) → (k : ℕ) × (climb up k b ≡ a)
unfolding within climb
within_steps up zero a b t = (0, eqb→eq b a t)
within_steps up (suc f) a b t = go (either (eqb b a) (within up f a (up b)) t) (within_steps up f a (up b))
  where
    go : T (eqb b a) ⊎ T (within up f a (up b)) → (T (within up f a (up b)) → (k : ℕ) × (climb up k (up b) ≡ a))
        → (k : ℕ) × (climb up k b ≡ a)
    go (inl e) r = (0, eqb→eq b a e)
    go (inr h) r = let s = r h in (suc s.0, s.1)

steps_within : (up : ℕ → ℕ) (f a b k : ℕ) → climb up k b ≡ a → k ≤ f → T (within up f a b)
unfolding within climb
steps_within up zero a b zero e h = subst (λ (x : ℕ). T (eqb b x)) e (eqb_refl b)
steps_within up zero a b (suc k) e h = absurd (omega arith)
steps_within up (suc f) a b zero e h = in_left (eqb b a) _ (subst (λ (x : ℕ). T (eqb b x)) e (eqb_refl b))
steps_within up (suc f) a b (suc k) e h = in_right (eqb b a) (within up f a (up b)) (steps_within up f a (up b) k e (omega arith))

pub climb_add : (up : ℕ → ℕ) (j k b : ℕ) → climb up (j + k) b ≡ climb up k (climb up j b)
unfolding climb
climb_add up zero k b = rw zero-add
climb_add up (suc j) k b = let e : suc j + k ≡ suc (j + k) = omega arith in rw e (climb_add up j k (up b))

module _ (up : ℕ → ℕ) (falls : (k : ℕ) → up k ≤ pred k) where
  pub climb_le : (k b : ℕ) → climb up k b ≤ b
  unfolding climb
  climb_le zero b = omega arith
  climb_le (suc k) b = omega (arith, climb_le k (up b), falls b)

  climb_root : (k b : ℕ) → b ≤ k → climb up k b ≡ 0
  unfolding climb
  climb_root zero b h = omega arith
  climb_root (suc k) b h = climb_root k (up b) (omega (arith, falls b))

  -- below, by steps
  pub below_steps : (a b : ℕ) → T (below up a b) → (k : ℕ) × (climb up k b ≡ a)
  unfolding below
  below_steps a b t = within_steps up b a b t

  pub steps_below : (a b k : ℕ) → climb up k b ≡ a → T (below up a b)
  unfolding below
  steps_below a b k e = go (le_or_lt k b)
    where
      go : (k ≤ b) ⊎ (b < k) → T (within up b a b)
      go (inl h) = steps_within up b a b k e h
      go (inr h) = steps_within up b a b b (climb_root b b (omega arith) ∙ sym (climb_root k b (omega arith)) ∙ e) (omega arith)

  pub below_refl : (a : ℕ) → T (below up a a)
  unfolding climb
  below_refl a = steps_below a a 0 refl

  pub below_up : (b : ℕ) → T (below up (up b) b)
  unfolding climb
  below_up b = steps_below (up b) b 1 refl

  pub below_root : (b : ℕ) → T (below up 0 b)
  below_root b = steps_below 0 b b (climb_root b b (omega arith))

  pub below_trans : (a b c : ℕ) → T (below up a b) → T (below up b c) → T (below up a c)
  below_trans a b c s t =
      let p = below_steps a b s in
      let q = below_steps b c t in
      steps_below a c (q.0 + p.0) (climb_add up q.0 p.0 c ∙ ap (climb up p.0) q.1 ∙ p.1)

  pub below_le : (a b : ℕ) → T (below up a b) → a ≤ b
  below_le a b t = let p = below_steps a b t in omega (arith, climb_le p.0 b, p.1)

  pub below_antisym : (a b : ℕ) → T (below up a b) → T (below up b a) → a ≡ b
  below_antisym a b s t = omega (arith, below_le a b s, below_le b a t)

  -- two blocks above one block lie on one line
  pub below_line : (a b c : ℕ) → T (below up a c) → T (below up b c) → T (below up a b) ⊎ T (below up b a)
  below_line a b c s t = go (below_steps a c s) (below_steps b c t)
    where
      rest : (x y i j : ℕ) → climb up i c ≡ x → climb up j c ≡ y → i ≤ j → T (below up y x)
      rest x y i j p q h =
          let e : i + (j - i) ≡ j = omega arith in
          steps_below y x (j - i) (ap (climb up (j - i)) (sym p) ∙ sym (climb_add up i (j - i) c) ∙ ap (λ (k : ℕ). climb up k c) e ∙ q)

      go : (k : ℕ) × (climb up k c ≡ a) → (k : ℕ) × (climb up k c ≡ b) → T (below up a b) ⊎ T (below up b a)
      go p q = pick (le_or_lt p.0 q.0)
        where
          pick : (p.0 ≤ q.0) ⊎ (q.0 < p.0) → T (below up a b) ⊎ T (below up b a)
          pick (inl h) = inr (rest a b p.0 q.0 p.1 q.1 h)
          pick (inr h) = inl (rest b a q.0 p.0 q.1 p.1 (omega arith))

  -- a block strictly below another is at or below its parent's line
  pub below_step : (a b : ℕ) → T (below up a b) → a ≢ b → T (below up a (up b))
  below_step a b t n = go (below_steps a b t)
    where
      go : (k : ℕ) × (climb up k b ≡ a) → T (below up a (up b))
      go p = steps p.0 p.1
        where
          steps : (k : ℕ) → climb up k b ≡ a → T (below up a (up b))
          steps zero e = absurd (n (sym (unfold climb in e)))
          steps (suc k) e = steps_below a (up b) k (unfold climb in e)

  pub child_is : (g k : ℕ) → 0 < k → up k ≡ g → T (child up g k)
  child_is g k h e = both (ltb 0 k) (eqb (up k) g) (lt→ltb 0 k h) (subst (λ (x : ℕ). T (eqb (up k) x)) e (eqb_refl (up k)))

  pub child_below : (g k : ℕ) → T (child up g k) → T (below up g k) × (g ≢ k)
  child_below g k t =
      let e : up k ≡ g = eqb→eq (up k) g (right_of (ltb 0 k) (eqb (up k) g) t) in
      let h : 0 < k = ltb→lt 0 k (left_of (ltb 0 k) (eqb (up k) g) t) in
      (subst (λ (x : ℕ). T (below up x k)) e (below_up k), λ q. omega (arith, falls k))

  child_from : (a k b : ℕ) → climb up k b ≡ a → a ≢ b → (c : ℕ) × T (child up a c) × T (below up c b)
  unfolding climb
  child_from a zero b e n = absurd (n (sym e))
  child_from a (suc k) b e n = go (ℕ_discrete a (up b)) (child_from a k (up b) e)
    where
      go : Dec (a ≡ up b) → (a ≢ up b → (c : ℕ) × T (child up a c) × T (below up c (up b))) → (c : ℕ) × T (child up a c) × T (below up c b)
      go (yes q) r = (b, child_is a b (omega (arith, falls b)) (sym q), below_refl b)
      go (no q) r = let s = r q in (s.0, s.1, below_trans s.0 (up b) b s.2 (below_up b))

  -- the child of a towards b
  pub child_towards : (a b : ℕ) → T (below up a b) → a ≢ b → (c : ℕ) × T (child up a c) × T (below up c b)
  child_towards a b t n = let p = below_steps a b t in child_from a p.0 b p.1 n

-- on a numbered table a block strictly below another has the higher number
module _ (t : Blocks) (tabled : Tabled t) where
  climb_number : (k b : ℕ) → b < t.count → t.number (climb t.up k b) ≤ t.number b
  unfolding climb
  climb_number zero b h = omega arith
  climb_number (suc k) zero h =
      let e : t.up 0 ≡ 0 = omega (arith, tabled.falls 0) in
      rw e (climb_number k 0 h)
  climb_number (suc k) (suc b) h =
      omega (arith, climb_number k (t.up (suc b)) (omega (arith, tabled.falls (suc b))), tabled.numbered (suc b) (omega arith) h)

  pub number_below : (a b : ℕ) → T (below t.up a b) → b < t.count → t.number a ≤ t.number b
  number_below a b s h =
      let p = below_steps t.up tabled.falls a b s in
      rw (← p.1) (climb_number p.0 b h)

  pub number_strictly : (a b : ℕ) → T (below t.up a b) → b < t.count → a ≢ b → t.number a < t.number b
  number_strictly a b s h n =
      omega (
        arith,
        number_below a (t.up b) (below_step t.up tabled.falls a b s n) (omega (arith, tabled.falls b)),
        tabled.numbered b (omega (arith, below_le t.up tabled.falls a b s)) h,
      )

  pub number_root : (b : ℕ) → b < t.count → t.number 0 ≤ t.number b
  number_root b h = number_below 0 b (below_root t.up tabled.falls b) h

  -- k steps up the number is k less, as long as the root is not passed
  pub climb_reaches : (k b : ℕ) → b < t.count → t.number 0 + k ≤ t.number b → t.number (climb t.up k b) + k ≡ t.number b
  unfolding climb
  climb_reaches zero b h l = omega arith
  climb_reaches (suc k) zero h l = absurd (omega arith)
  climb_reaches (suc k) (suc b) h l =
      let e = tabled.numbered (suc b) (omega arith) h in
      omega (arith, climb_reaches k (t.up (suc b)) (omega (arith, tabled.falls (suc b))) (omega arith))

  climb_meets : (k a b : ℕ) → climb t.up k b ≡ a → b < t.count → climb t.up (t.number b - t.number a) b ≡ a
  unfolding climb
  climb_meets zero a b e h = let z : t.number b - t.number a ≡ 0 = omega (arith, ap t.number e) in rw z e
  climb_meets (suc k) a b e h = go (ℕ_discrete b a) (climb_meets k a (t.up b) e (omega (arith, tabled.falls b)))
    where
      go : Dec (b ≡ a) → climb t.up (t.number (t.up b) - t.number a) (t.up b) ≡ a
          → climb t.up (t.number b - t.number a) b ≡ a
      go (yes q) r = let z : t.number b - t.number a ≡ 0 = omega (arith, ap t.number q) in rw z q
      go (no q) r =
          let l = climb_le t.up tabled.falls k (t.up b) in
          let f = tabled.falls b in
          let n = tabled.numbered b (omega arith) h in
          let m = rw e at (climb_number k (t.up b) (omega arith)) in
          let z : t.number b - t.number a ≡ suc (t.number (t.up b) - t.number a) = omega arith in
          rw z r

  -- at or below, by the block of a's number on the way up from b
  pub below_at : (a b : ℕ) → b < t.count → below t.up a b ≡ eqb (climb t.up (t.number b - t.number a) b) a
  below_at a b h = same_test (below t.up a b) _ into back
    where
      into : T (below t.up a b) → T (eqb (climb t.up (t.number b - t.number a) b) a)
      into s =
          let p = below_steps t.up tabled.falls a b s in
          subst (λ (x : ℕ). T (eqb x a)) (sym (climb_meets p.0 a b p.1 h)) (eqb_refl a)

      back : T (eqb (climb t.up (t.number b - t.number a) b) a) → T (below t.up a b)
      back s = steps_below t.up tabled.falls a b (t.number b - t.number a) (eqb→eq _ a s)

-- two tables that agree on the first n places agree on what lies above those
module _ (n : ℕ) (up up' : ℕ → ℕ) (falls : (k : ℕ) → up k ≤ pred k) (same : (k : ℕ) → k < n → up k ≡ up' k) where
  within_same : (f a b : ℕ) → b < n → within up f a b ≡ within up' f a b
  unfolding within
  within_same zero a b h = refl
  within_same (suc f) a b h =
      ap (λ (r : Bool). eqb b a || r) (within_same f a (up b) (omega (arith, falls b)) ∙ ap (within up' f a) (same b h))

  pub below_same : (a b : ℕ) → b < n → below up a b ≡ below up' a b
  unfolding below
  below_same a b h = within_same b a b h
