-- What it means that each head's id is above the one before.
use mathlib.Core.Bool.{◌||◌}
use mathlib.Core.List.{List, [], ◌∷◌, ◌++◌}
use mathlib.Core.Path.{◌≡◌, subst}
use mathlib.Core.Logic.{◌⊎◌, inl, inr}
use Prim.Native.Nat.{ℕ, zero, suc, ◌-◌, ◌≤◌, ◌<◌}
use native.Mathlib.Decide.{ℕ_discrete}
use native.Mathlib.Omega.{arith}
use lib.Dec.{T, eqb, ltb, eqb→eq, ltb→lt}
use borrow.Author.Tests.{eq-eqb, lt-ltb}
use Rattle.loops.specs.Listing.{times, front}
use Rattle.loops.proofs.Tests.{T_true, in_left, in_right, either}
use Rattle.loops.proofs.Alls.{all_at, all_intro}
use Rattle.loops.proofs.Listings.{times_none, times_here, times_past, times_more, times_end, times_not_end}
use Rattle.graph.specs.Shape.{Rising}
use Rattle.nodes.specs.Nodes.{col}
use Rattle.graph_lists.specs.Listed.{rising}
use Rattle.graph_shape.proofs.Marks.{front_past, in_front}

module _ (ids : ℕ → ℕ) (x : ℕ) where
  -- one more at the end
  rising_end : (l : List ℕ) → Rising ids l → ((y : ℕ) → 0 < times y l → ids y < ids x) → Rising ids (l ++ (x ∷ []))
  rising_end [] r h = (λ y l. absurd (omega (arith, times_none y)), tt)
  rising_end (z ∷ l) r h = (λ y m. at y m (ℕ_discrete x y), rising_end l r.1 (λ y m. h y (times_more y z l m)))
    where
      at : (y : ℕ) → 0 < times y (l ++ (x ∷ [])) → Dec (x ≡ y) → ids z < ids y
      at y m (yes e) = rw (← e) (h z (omega (arith, times_here z l)))
      at y m (no n) = r.0 y (omega (arith, m, times_not_end y x l n))

  rising_last : (l : List ℕ) → Rising ids (l ++ (x ∷ [])) → Rising ids l × ((y : ℕ) → 0 < times y l → ids y < ids x)
  rising_last [] r = (tt, λ y h. absurd (omega (arith, times_none y)))
  rising_last (z ∷ l) r =
      let s = rising_last l r.1 in
      ((λ y h. r.0 y (more y h (ℕ_discrete x y)), s.0), λ y h. at y h s.1 (ℕ_discrete z y))
    where
      more : (y : ℕ) → 0 < times y l → Dec (x ≡ y) → 0 < times y (l ++ (x ∷ []))
      more y h (yes e) = rw e (omega (arith, times_end y l))
      more y h (no n) = omega (arith, times_not_end y x l n)

      at : (y : ℕ) → 0 < times y (z ∷ l) → ((w : ℕ) → 0 < times w l → ids w < ids x) → Dec (z ≡ y) → ids y < ids x
      at y h f (yes e) = rw (← e) (r.0 x (omega (arith, times_end x l)))
      at y h f (no n) = f y (omega (arith, h, times_past y z l n))

module _ (ids heads : List ℕ) where
  step : (n : ℕ) → T (rising ids heads n) → (k : ℕ) → suc k < n → col ids (col heads k) < col ids (col heads (suc k))
  unfolding rising
  step n t k h = go (either (eqb (suc k) 0) _ (all_at _ n t (suc k) h))
    where
      go : T (eqb (suc k) 0) ⊎ T (ltb (col ids (col heads (suc k - 1))) (col ids (col heads (suc k)))) → col ids (col heads k) < col ids (col heads (suc k))
      go (inl e) = absurd (let q = eqb→eq (suc k) 0 e in omega arith)
      go (inr l) =
          let q : suc k - 1 ≡ k = omega arith in
          subst (λ (i : ℕ). col ids (col heads i) < col ids (col heads (suc k))) q (ltb→lt _ _ l)

  -- a head among the first is at most the last of them
  last : (n : ℕ) → T (rising ids heads n) → (k : ℕ) → k < n → (y : ℕ) → 0 < times y (front (suc k) heads) → col ids y ≤ col ids (col heads k)
  last n t zero h y l = go (ℕ_discrete (col heads 0) y)
    where
      go : Dec (col heads 0 ≡ y) → col ids y ≤ col ids (col heads 0)
      go (yes e) = rw e (omega arith)
      go (no e) =
          absurd (let z : times y (front 0 heads) ≡ 0 = (unfold front in times_none y) in omega (arith, front_past heads y 0 e))
  last n t (suc k) h y l = go (ℕ_discrete (col heads (suc k)) y) (last n t k (omega arith) y)
    where
      go : Dec (col heads (suc k) ≡ y) → (0 < times y (front (suc k) heads) → col ids y ≤ col ids (col heads k))
          → col ids y ≤ col ids (col heads (suc k))
      go (yes e) r = rw e (omega arith)
      go (no e) r = omega (arith, r (omega (arith, front_past heads y (suc k) e)), step n t k h)

  pub rising_says : (n : ℕ) → T (rising ids heads n) → Rising (col ids) (front n heads)
  unfolding front
  rising_says n t = upto n (omega arith)
    where
      upto : (k : ℕ) → k ≤ n → Rising (col ids) (front k heads)
      upto zero h = tt
      upto (suc k) h = rising_end (col ids) (col heads k) (front k heads) (upto k (omega arith)) (λ y l. less k h y l)
        where
          less : (k : ℕ) → suc k ≤ n → (y : ℕ) → 0 < times y (front k heads) → col ids y < col ids (col heads k)
          less zero h y l = absurd (omega (arith, times_none y))
          less (suc k) h y l = omega (arith, last n t k (omega arith) y l, step n t k h)

  pub says_rising : (n : ℕ) → Rising (col ids) (front n heads) → T (rising ids heads n)
  unfolding rising front
  says_rising n r = all_intro _ n (λ k h. go k h (ℕ_discrete k 0))
    where
      before : (n : ℕ) → Rising (col ids) (front n heads) → (k j : ℕ) → k < n → j < k → col ids (col heads j) < col ids (col heads k)
      before zero r k j h l = absurd (omega arith)
      before (suc n) r k j h l = at (ℕ_discrete k n) (rising_last (col ids) (col heads n) (front n heads) r) (before n)
        where
          at : Dec (k ≡ n) → Rising (col ids) (front n heads) × ((y : ℕ) → 0 < times y (front n heads) → col ids y < col ids (col heads n))
              → (Rising (col ids) (front n heads) → (k j : ℕ) → k < n → j < k → col ids (col heads j) < col ids (col heads k))
              → col ids (col heads j) < col ids (col heads k)
          at (yes e) s f = rw e (s.1 (col heads j) (in_front heads j n (omega arith)))
          at (no e) s f = f s.0 k j (omega arith) l

      go : (k : ℕ) → k < n → Dec (k ≡ 0) → T (eqb k 0 || ltb (col ids (col heads (k - 1))) (col ids (col heads k)))
      go k h (yes e) = in_left (eqb k 0) _ (T_true (eq-eqb k 0 e))
      go k h (no e) =
          in_right (eqb k 0) (ltb (col ids (col heads (k - 1))) (col ids (col heads k)))
          (T_true (lt-ltb _ _ (before n r k (k - 1) h (omega arith))))
