-- The turns of the sweeps down the table, and of the loops that strike marks out.
use mathlib.Core.Bool.{Bool, true, false, cond, ◌&&◌, ◌||◌}
use mathlib.Core.List.{List}
use mathlib.Core.Path.{◌≡◌, refl, sym, ap, ◌∙◌}
use Prim.Native.Nat.{ℕ, pred, ◌+◌, ◌≤◌, ◌<◌}
use native.Mathlib.Decide.{ℕ_discrete}
use native.Mathlib.Omega.{arith}
use lib.Dec.{eqb, ltb}
use lib.ListN.{get_or, set, length, replicate, length-set}
use lib.Seq.{get_or-set_same, get_or-set_other}
use borrow.Author.Tests.{eq-eqb, ne_eqb, lt-ltb, le-ltb}
use Rattle.sizes.specs.Sizes.{BLOCKS}
use Rattle.loops.proofs.Tests.{true_T, false_not, same_test}
use Rattle.grandpa.specs.Tree.{below}
use Rattle.grandpa.proofs.Trees.{below_refl, below_up, below_trans, below_le, below_step}
use Rattle.graph.specs.Search.{nearest}
use Rattle.graph.proofs.Climbs.{until_here, until_next, until_root}

module _ (up : ℕ → ℕ) (falls : (k : ℕ) → up k ≤ pred k) where
  below_turn : (b k : ℕ) → (eqb k b || (ltb 0 k && below up b (up k))) ≡ below up b k
  below_turn b k = go (ℕ_discrete k b) (ℕ_discrete k 0)
    where
      go : Dec (k ≡ b) → Dec (k ≡ 0) → (eqb k b || (ltb 0 k && below up b (up k))) ≡ below up b k
      go (yes e) d = rw (eq-eqb k b e, e) (sym (true_T _ (below_refl up falls b)))
      go (no n) (yes z) =
          rw (ne_eqb k b n, le-ltb 0 k (omega arith))
          (sym (false_not (below up b k) (λ t. n (omega (arith, below_le up falls b k t)))))
      go (no n) (no z) =
          rw (ne_eqb k b n, lt-ltb 0 k (omega arith))
          (same_test (below up b (up k)) (below up b k) (λ t. below_trans up falls b (up k) k t (below_up up falls k))
          (λ t. below_step up falls b k t (λ e. n (sym e))))

  nearest_turn : (used : ℕ → Bool) (k : ℕ) → cond (used k) k (nearest up used (up k)) ≡ nearest up used k
  unfolding nearest
  nearest_turn used k = go (used k) refl (ℕ_discrete k 0)
    where
      go : (b : Bool) → used k ≡ b → Dec (k ≡ 0) → cond b k (nearest up used (up k)) ≡ nearest up used k
      go true e d = sym (until_here up falls used k e)
      go false e (yes z) =
          let u : up k ≡ 0 = omega (arith, falls k) in
          rw (u, z)
      go false e (no n) = sym (until_next up falls used k (omega arith) e)

-- a column that says of the places before k whether they are at or below b
pub record Under (up : ℕ → ℕ) (b : ℕ) (under : List Bool) (k : ℕ) : Type 0 where
  pub sized : length under ≡ BLOCKS
  pub says : (j : ℕ) → j < k → get_or under j false ≡ below up b j

-- the nearest node of the places before k, and of the root
pub record Near (up : ℕ → ℕ) (used : ℕ → Bool) (near : List ℕ) (k : ℕ) : Type 0 where
  pub sized : length near ≡ BLOCKS
  pub says : (j : ℕ) → j ≤ pred k → get_or near j 0 ≡ nearest up used j

module _ (up : ℕ → ℕ) (falls : (k : ℕ) → up k ≤ pred k) where
  pub under_none : (b : ℕ) → Under up b (replicate BLOCKS false) 0
  under_none b = record { sized = refl; says = λ j h. absurd (omega arith) }

  pub under_here : (b k top over : ℕ) (under : List Bool) → Under up b under k → top ≡ b → over ≡ up k
      → (eqb k top || (ltb 0 k && get_or under over false)) ≡ below up b k
  under_here b k top over under u t w = rw (t, w) (go (ℕ_discrete k 0))
    where
      go : Dec (k ≡ 0) → (eqb k b || (ltb 0 k && get_or under (up k) false)) ≡ below up b k
      go (yes z) =
          let l : ltb 0 k ≡ false = le-ltb 0 k (omega arith) in
          rw l (rw l at (below_turn up falls b k))
      go (no n) = rw (u.says (up k) (omega (arith, falls k))) (below_turn up falls b k)

  pub under_more : (b k : ℕ) (under : List Bool) (low : Bool) → k < BLOCKS → Under up b under k → low ≡ below up b k
      → Under up b (set under k low) (k + 1)
  under_more b k under low h u e =
      record { sized = simp length-set u.sized; says = λ j l. go j l (ℕ_discrete j k) }
    where
      go : (j : ℕ) → j < k + 1 → Dec (j ≡ k) → get_or (set under k low) j false ≡ below up b j
      go j l (yes q) = rw q (get_or-set_same under k low false (omega (arith, u.sized)) ∙ e)
      go j l (no q) = get_or-set_other under k j low false q ∙ u.says j (omega arith)

  pub near_none : (used : ℕ → Bool) → Near up used (replicate BLOCKS 0) 0
  unfolding nearest
  near_none used = record { sized = refl; says = λ j h. root j (omega arith) }
    where
      root : (j : ℕ) → j ≡ 0 → get_or (replicate BLOCKS 0) j 0 ≡ nearest up used j
      root j e = rw e (sym (until_root up falls used))

  pub near_over : (used : ℕ → Bool) (k over : ℕ) (near : List ℕ) → Near up used near k → over ≡ up k
      → get_or near over 0 ≡ nearest up used (up k)
  near_over used k over near n w = rw w (n.says (up k) (falls k))

  pub near_more : (used : ℕ → Bool) (k over x : ℕ) (near : List ℕ) → k < BLOCKS → Near up used near k → over ≡ up k
      → x ≡ cond (used k) k (get_or near over 0) → Near up used (set near k x) (k + 1)
  near_more used k over x near h n w e =
      record { sized = simp length-set n.sized; says = λ j l. go j l (ℕ_discrete j k) }
    where
      go : (j : ℕ) → j ≤ pred (k + 1) → Dec (j ≡ k) → get_or (set near k x) j 0 ≡ nearest up used j
      go j l (yes q) =
          rw q
          (get_or-set_same near k x 0 (omega (arith, n.sized)) ∙ e
          ∙ ap (λ (z : ℕ). cond (used k) k z) (near_over used k over near n w) ∙ nearest_turn up falls used k)
      go j l (no q) = get_or-set_other near k j x 0 q ∙ n.says j (omega arith)
