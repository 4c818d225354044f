-- The nodes that list none are those with no node strictly below.
use mathlib.Core.Bool.{Bool}
use mathlib.Core.Path.{◌≡◌, sym, subst}
use mathlib.Core.Logic.{◌≢◌}
use Prim.Native.Nat.{ℕ, zero, suc, pred, ◌≤◌, ◌<◌}
use native.Mathlib.Decide.{ℕ_discrete}
use native.Mathlib.Omega.{arith}
use lib.Dec.{T}
use Rattle.grandpa.specs.Tree.{below}
use Rattle.grandpa.proofs.Trees.{below_up, below_trans, below_le, below_antisym, below_step}
use Rattle.graph.specs.Search.{nearest}
use Rattle.graph.specs.Shape.{Tip}
use Rattle.graph.proofs.Climbs.{Nearest, nearest_says}

module _ (up : ℕ → ℕ) (falls : (k : ℕ) → up k ≤ pred k) (used : ℕ → Bool) (base : ℕ) (base_used : T (used base))
    (inside : (x : ℕ) → T (used x) → T (below up base x)) (above : ℕ → ℕ)
    (tied : (x : ℕ) → T (used x) → x ≢ base → above x ≡ nearest up used (up x)) where
  over : (x : ℕ) → T (used x) → x ≢ base → Nearest up falls used (up x) (above x)
  over x u n =
      rw (tied x u n) (nearest_says up falls used base base_used (up x) (below_step up falls base x (inside x u) (λ e. n (sym e))))

  pub above_earlier : (x : ℕ) → T (used x) → x ≢ base → above x < x
  above_earlier x u n =
      omega (arith, below_le up falls (above x) (up x) (over x u n).above, falls x, below_le up falls base x (inside x u))

  -- from a node strictly below x the nodes above lead to one that x is above
  pub tip_of : (x : ℕ) → T (used x) → ((y : ℕ) → T (used y) → y ≢ base → above y ≢ x) → Tip up used x
  tip_of x u h y v l = climb y y (omega arith) v l
    where
      climb : (f y : ℕ) → y ≤ f → T (used y) → T (below up x y) → y ≡ x
      climb zero y g v l = omega (arith, below_le up falls x y l)
      climb (suc f) y g v l = go (ℕ_discrete y x) (climb f)
        where
          go : Dec (y ≡ x) → ((z : ℕ) → z ≤ f → T (used z) → T (below up x z) → z ≡ x) → y ≡ x
          go (yes e) r = e
          go (no n) r =
              absurd (h y v other
              (r (above y) (omega (arith, above_earlier y v other)) (over y v other).is_node
              ((over y v other).first x u (below_step up falls x y l (λ e. n (sym e))))))
            where
              other : y ≢ base
              other e =
                  n (sym (below_antisym up falls x y l (subst (λ (b : ℕ). T (below up b x)) (sym e) (inside x u))))

  pub tip_lists : (x : ℕ) → Tip up used x → (y : ℕ) → T (used y) → y ≢ base → above y ≢ x
  tip_lists x tip y v n e =
      let l : T (below up x y) =
      subst (λ (z : ℕ). T (below up z y)) e (below_trans up falls (above y) (up y) y (over y v n).above (below_up up falls y)) in
      omega (arith, tip y v l, above_earlier y v n)
