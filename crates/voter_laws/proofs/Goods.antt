-- What the test of the shape rules means.
use mathlib.Core.Bool.{true, ◌||◌}
use mathlib.Core.List.{List}
use mathlib.Core.Path.{◌≡◌, ap, ◌∙◌, subst}
use mathlib.Core.Logic.{◌⊎◌, inl, inr}
use Prim.Native.Nat.{ℕ, zero, suc, ◌+◌, ◌-◌, ◌≤◌, ◌<◌}
use native.Mathlib.Decide.{dec_le, ℕ_discrete}
use native.Mathlib.Omega.{arith}
use lib.Dec.{T, eqb, ltb, eqb→eq, leb→le, ltb→lt, T_not, not_T}
use lib.ListN.{length, get_or, get_or-eq_default}
use borrow.Author.Tests.{eq-eqb, le-leb, lt-ltb}
use Rattle.sizes.specs.Sizes.{VOTERS}
use Rattle.loops.proofs.Tests.{T_true, true_T, left_of, right_of, in_left, in_right, either}
use Rattle.loops.specs.Sum.{sum}
use Rattle.loops.proofs.Alls.{all_at, all_intro}
use Rattle.loops.proofs.Sums.{sum_short}
use Rattle.voter_set.specs.declared.VoterSet.{VoterSet}
use Rattle.totals.specs.Totals.{total_of}
use Rattle.columns.specs.Blank.{blank}
use Rattle.voter_shape.specs.Sound.{rising, non_zero, placed, sound}
use Rattle.voter_set.specs.Good.{good, Good}

module _ (column : List ℕ) (n : ℕ) where
  rising_step : T (rising column n) → (k : ℕ) → suc k < n → get_or column k 0 < get_or column (suc k) 0
  unfolding rising
  rising_step t k h = go (either (eqb (suc k) 0) _ (all_at _ n t (suc k) h))
    where
      go : T (eqb (suc k) 0) ⊎ T (ltb (get_or column (suc k - 1) 0) (get_or column (suc k) 0)) → get_or column k 0 < get_or column (suc k) 0
      go (inl e) = absurd (let q = eqb→eq (suc k) 0 e in omega arith)
      go (inr l) =
          let q : suc k - 1 ≡ k = omega arith in
          subst (λ (i : ℕ). get_or column i 0 < get_or column (suc k) 0) q (ltb→lt _ _ l)

  pub rising_means : T (rising column n) → (j k : ℕ) → j < k → k < n → get_or column j 0 < get_or column k 0
  rising_means t j zero h l = absurd (omega arith)
  rising_means t j (suc k) h l = go (ℕ_discrete j k) (rising_means t j k)
    where
      go : Dec (j ≡ k) → (j < k → k < n → get_or column j 0 < get_or column k 0) → get_or column j 0 < get_or column (suc k) 0
      go (yes e) f = rw e (rising_step t k l)
      go (no e) f = omega (arith, rising_step t k l, f (omega arith) (omega arith))

  pub means_rising : ((j k : ℕ) → j < k → k < n → get_or column j 0 < get_or column k 0) → T (rising column n)
  unfolding rising
  means_rising f = all_intro _ n (λ k h. go k h (ℕ_discrete k 0))
    where
      go : (k : ℕ) → k < n → Dec (k ≡ 0) → T (eqb k 0 || ltb (get_or column (k - 1) 0) (get_or column k 0))
      go k h (yes e) = in_left (eqb k 0) (ltb (get_or column (k - 1) 0) (get_or column k 0)) (T_true (eq-eqb k 0 e))
      go k h (no e) =
          in_right (eqb k 0) (ltb (get_or column (k - 1) 0) (get_or column k 0)) (T_true (lt-ltb _ _ (f (k - 1) k (omega arith) h)))

  pub non_zero_means : T (non_zero column n) → (k : ℕ) → k < n → 0 < get_or column k 0
  unfolding non_zero
  non_zero_means t k h = go (ℕ_discrete (get_or column k 0) 0)
    where
      go : Dec (get_or column k 0 ≡ 0) → 0 < get_or column k 0
      go (yes e) = absurd (T_not (eqb (get_or column k 0) 0) (all_at _ n t k h) (T_true (eq-eqb _ _ e)))
      go (no e) = omega arith

  pub means_non_zero : ((k : ℕ) → k < n → 0 < get_or column k 0) → T (non_zero column n)
  unfolding non_zero
  means_non_zero f =
      all_intro _ n (λ k h. not_T (eqb (get_or column k 0) 0) (λ t. let e = eqb→eq (get_or column k 0) 0 t in omega (arith, f k h)))

  pub blank_means : length column ≡ VOTERS → T (blank column n VOTERS) → (k : ℕ) → n ≤ k → get_or column k 0 ≡ 0
  unfolding blank
  blank_means s t k h = go (dec_le VOTERS k)
    where
      go : Dec (VOTERS ≤ k) → get_or column k 0 ≡ 0
      go (yes l) = get_or-eq_default column 0 (omega arith)
      go (no l) = side (either (ltb k n) _ (all_at _ VOTERS t k (omega arith)))
        where
          side : T (ltb k n) ⊎ T (eqb (get_or column k 0) 0) → get_or column k 0 ≡ 0
          side (inl m) = absurd (omega (arith, ltb→lt k n m))
          side (inr m) = eqb→eq _ _ m

  pub means_blank : ((k : ℕ) → n ≤ k → get_or column k 0 ≡ 0) → T (blank column n VOTERS)
  unfolding blank
  means_blank f = all_intro _ VOTERS (λ k h. go k (dec_le n k))
    where
      go : (k : ℕ) → Dec (n ≤ k) → T (ltb k n || eqb (get_or column k 0) 0)
      go k (yes l) = in_right (ltb k n) (eqb (get_or column k 0) 0) (T_true (eq-eqb _ _ (f k l)))
      go k (no l) = in_left (ltb k n) (eqb (get_or column k 0) 0) (T_true (lt-ltb k n (omega arith)))

module _ (s : VoterSet) where
  pub good_means : good s ≡ true → Good s
  unfolding sound placed
  good_means e =
      let t : T (good s) = T_true e in
      let a : length s.ids ≡ VOTERS = eqb→eq _ _ (search (left_of, right_of)) in
      let b : length s.weights ≡ VOTERS = eqb→eq _ _ (search (left_of, right_of)) in
      let u : s.total ≡ total_of s.weights = eqb→eq _ _ (search (left_of, right_of) depth 10) in
      record {
        ids_sized = a;
        weights_sized = b;
        few = leb→le _ _ (search (left_of, right_of) depth 10);
        ids_rise = rising_means s.ids s.count (search (left_of, right_of) depth 10);
        weigh_some = non_zero_means s.weights s.count (search (left_of, right_of) depth 10);
        no_id = blank_means s.ids s.count a (search (left_of, right_of) depth 10);
        no_weight = blank_means s.weights s.count b (search (left_of, right_of) depth 10);
        total_is = rw b at u;
        threshold_is = eqb→eq _ _ (search (left_of, right_of) depth 10);
      }

  pub means_good : Good s → good s ≡ true
  unfolding sound placed
  means_good g =
      let u : s.total ≡ total_of s.weights = rw g.weights_sized g.total_is in
      rw (
        eq-eqb _ VOTERS g.ids_sized,
        eq-eqb _ VOTERS g.weights_sized,
        le-leb _ VOTERS g.few,
        true_T (rising s.ids s.count) (means_rising s.ids s.count g.ids_rise),
        true_T (non_zero s.weights s.count) (means_non_zero s.weights s.count g.weigh_some),
        true_T (blank s.ids s.count VOTERS) (means_blank s.ids s.count g.no_id),
        true_T (blank s.weights s.count VOTERS) (means_blank s.weights s.count g.no_weight),
        eq-eqb _ _ u,
      )
      (eq-eqb _ _ g.threshold_is)

  -- the unused places add nothing to the total
  pub total_used : Good s → s.total ≡ sum s.count (λ k. get_or s.weights k 0)
  total_used g =
      let e : VOTERS ≡ s.count + (VOTERS - s.count) = omega (arith, g.few) in
      g.total_is ∙ ap (λ (n : ℕ). sum n (λ k. get_or s.weights k 0)) e
      ∙ sum_short s.count (VOTERS - s.count) (λ k. get_or s.weights k 0) g.no_weight

  -- an id has one place
  pub one_place : Good s → (j k : ℕ) → j < s.count → k < s.count → get_or s.ids j 0 ≡ get_or s.ids k 0 → j ≡ k
  one_place g j k h l e = go (ℕ_discrete j k) (dec_le j k)
    where
      go : Dec (j ≡ k) → Dec (j ≤ k) → j ≡ k
      go (yes q) d = q
      go (no q) (yes d) = absurd (omega (arith, g.ids_rise j k (omega arith) l))
      go (no q) (no d) = absurd (omega (arith, g.ids_rise k j (omega arith) h))
