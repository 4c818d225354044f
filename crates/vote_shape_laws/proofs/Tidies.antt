-- What it means that the columns of votes are tidy.
use mathlib.Core.Bool.{true, false, ◌&&◌, ◌||◌}
use mathlib.Core.Path.{◌≡◌}
use mathlib.Core.Logic.{◌⊎◌, inl, inr}
use Prim.Native.Nat.{ℕ, ◌≤◌, ◌<◌}
use native.Mathlib.Decide.{dec_lt}
use native.Mathlib.Omega.{arith}
use lib.Dec.{T, eqb, leb, ltb, eqb→eq, leb→le, ltb→lt}
use borrow.Author.Tests.{eq-eqb, le-leb, lt-ltb}
use Rattle.sizes.specs.Sizes.{VOTES}
use Rattle.layouts.specs.Layout.{index_place}
use Rattle.loops.proofs.Tests.{T_true, both, left_of, right_of, in_left, in_right, either}
use Rattle.loops.proofs.Alls.{all_at, all_intro}
use Rattle.nodes.specs.Nodes.{col}
use Rattle.tracker.specs.declared.Votes.{Votes}
use Rattle.tracker.specs.Votes.{Wide}
use Rattle.vote_shape.specs.Voted.{counted, first_clear, second_clear, tidy_at, tidy}
use Rattle.vote_shape_laws.specs.Recorded.{Tidy}
use Rattle.vote_shape_laws.proofs.Casts.{past}

-- the tests of one index
module _ (size j n : ℕ) where
  counted_says : T (counted size j n) → (n ≤ 2) × (size ≤ index_place j → n ≡ 0)
  counted_says t = (leb→le n 2 (left_of (leb n 2) _ t), λ h. go h (either (ltb (index_place j) size) _ (right_of (leb n 2) _ t)))
    where
      go : size ≤ index_place j → T (ltb (index_place j) size) ⊎ T (eqb n 0) → n ≡ 0
      go h (inl l) = absurd (let k = ltb→lt (index_place j) size l in omega arith)
      go h (inr e) = eqb→eq n 0 e

  says_counted : n ≤ 2 → (size ≤ index_place j → n ≡ 0) → T (counted size j n)
  says_counted h f = both (leb n 2) _ (T_true (le-leb n 2 h)) (go (dec_lt (index_place j) size))
    where
      go : Dec (index_place j < size) → T (ltb (index_place j) size || eqb n 0)
      go (yes l) = in_left (ltb (index_place j) size) (eqb n 0) (T_true (lt-ltb (index_place j) size l))
      go (no l) = in_right (ltb (index_place j) size) (eqb n 0) (T_true (eq-eqb n 0 (f (omega arith))))

module _ (n place signature : ℕ) where
  first_says : T (first_clear n place signature) → n ≡ 0 → (place ≡ 0) × (signature ≡ 0)
  first_says t e = go (either (ltb 0 n) _ t)
    where
      go : T (ltb 0 n) ⊎ T (eqb place 0 && eqb signature 0) → (place ≡ 0) × (signature ≡ 0)
      go (inl l) = absurd (let k = ltb→lt 0 n l in omega arith)
      go (inr c) = (eqb→eq place 0 (left_of (eqb place 0) _ c), eqb→eq signature 0 (right_of (eqb place 0) _ c))

  says_first : (n ≡ 0 → (place ≡ 0) × (signature ≡ 0)) → T (first_clear n place signature)
  says_first f = go (dec_lt 0 n)
    where
      go : Dec (0 < n) → T (first_clear n place signature)
      go (yes l) = in_left (ltb 0 n) _ (T_true (lt-ltb 0 n l))
      go (no l) =
          let z = f (omega arith) in
          in_right (ltb 0 n) _ (both (eqb place 0) _ (T_true (eq-eqb place 0 z.0)) (T_true (eq-eqb signature 0 z.1)))

module _ (n target number second : ℕ) where
  second_says : T (second_clear n target number second) → n ≤ 1 → (target ≡ 0) × (number ≡ 0) × (second ≡ 0)
  second_says t e = go (either (ltb 1 n) _ t)
    where
      go : T (ltb 1 n) ⊎ T (eqb target 0 && (eqb number 0 && eqb second 0)) → (target ≡ 0) × (number ≡ 0) × (second ≡ 0)
      go (inl l) = absurd (let k = ltb→lt 1 n l in omega arith)
      go (inr c) =
          let d = right_of (eqb target 0) _ c in
          (eqb→eq target 0 (left_of (eqb target 0) _ c), eqb→eq number 0 (left_of (eqb number 0) _ d), eqb→eq second 0 (right_of (eqb number 0) _ d))

  says_second : (n ≤ 1 → (target ≡ 0) × (number ≡ 0) × (second ≡ 0)) → T (second_clear n target number second)
  says_second f = go (dec_lt 1 n)
    where
      go : Dec (1 < n) → T (second_clear n target number second)
      go (yes l) = in_left (ltb 1 n) _ (T_true (lt-ltb 1 n l))
      go (no l) =
          let z = f (omega arith) in
          in_right (ltb 1 n) _
          (both (eqb target 0) _ (T_true (eq-eqb target 0 z.0))
          (both (eqb number 0) _ (T_true (eq-eqb number 0 z.1)) (T_true (eq-eqb second 0 z.2))))

module _ (size : ℕ) (v : Votes) where
  record Passed (j : ℕ) : Type 0 where
    pub counts : T (counted size j (col v.counts j))
    pub first : T (first_clear (col v.counts j) (col v.first_block j) (col v.first_signature j))
    pub second : T (second_clear (col v.counts j) (col v.second_target j) (col v.second_number j) (col v.second_signature j))

  passed : (j : ℕ) → T (tidy_at size v j) → Passed j
  unfolding tidy_at
  passed j t =
      let a = right_of (counted size j (col v.counts j)) _ t in
      record {
        counts = left_of (counted size j (col v.counts j)) _ t;
        first = left_of (first_clear (col v.counts j) (col v.first_block j) (col v.first_signature j)) _ a;
        second = right_of (first_clear (col v.counts j) (col v.first_block j) (col v.first_signature j)) _ a;
      }

  passes : (j : ℕ) → Passed j → T (tidy_at size v j)
  unfolding tidy_at
  passes j p =
      both (counted size j (col v.counts j)) _ p.counts
      (both (first_clear (col v.counts j) (col v.first_block j) (col v.first_signature j)) _ p.first p.second)

  pub tidy_says : Wide v → T (tidy size v) → Tidy size v
  unfolding tidy
  tidy_says w t =
      record {
        few = λ j. few j (dec_lt j VOTES);
        none_past = λ j h. none_past j h (dec_lt j VOTES);
        no_first = λ j e. no_first j e (dec_lt j VOTES);
        no_second = λ j e. no_second j e (dec_lt j VOTES);
      }
    where
      at : (j : ℕ) → j < VOTES → Passed j
      at j h = passed j (all_at (tidy_at size v) VOTES t j h)

      few : (j : ℕ) → Dec (j < VOTES) → col v.counts j ≤ 2
      few j (yes l) = (counted_says size j (col v.counts j) (at j l).counts).0
      few j (no l) = omega (arith, past v.counts VOTES j w.counts_size (omega arith))

      none_past : (j : ℕ) → size ≤ index_place j → Dec (j < VOTES) → col v.counts j ≡ 0
      none_past j h (yes l) = (counted_says size j (col v.counts j) (at j l).counts).1 h
      none_past j h (no l) = past v.counts VOTES j w.counts_size (omega arith)

      no_first : (j : ℕ) → col v.counts j ≡ 0 → Dec (j < VOTES) → (col v.first_block j ≡ 0) × (col v.first_signature j ≡ 0)
      no_first j e (yes l) =
          first_says (col v.counts j) (col v.first_block j) (col v.first_signature j) (at j l).first e
      no_first j e (no l) = (past v.first_block VOTES j w.first_block_size (omega arith), past v.first_signature VOTES j w.first_signature_size (omega arith))

      no_second : (j : ℕ) → col v.counts j ≤ 1 → Dec (j < VOTES)
          → (col v.second_target j ≡ 0) × (col v.second_number j ≡ 0) × (col v.second_signature j ≡ 0)
      no_second j e (yes l) =
          second_says (col v.counts j) (col v.second_target j) (col v.second_number j) (col v.second_signature j) (at j l).second e
      no_second j e (no l) = (
        past v.second_target VOTES j w.second_target_size (omega arith),
        past v.second_number VOTES j w.second_number_size (omega arith),
        past v.second_signature VOTES j w.second_signature_size (omega arith),
      )

  pub says_tidy : Tidy size v → T (tidy size v)
  unfolding tidy
  says_tidy t =
      all_intro (tidy_at size v) VOTES
      (λ j h. passes j
      (record {
        counts = says_counted size j (col v.counts j) (t.few j) (t.none_past j);
        first = says_first (col v.counts j) (col v.first_block j) (col v.first_signature j) (t.no_first j);
        second = says_second (col v.counts j) (col v.second_target j) (col v.second_number j) (col v.second_signature j) (t.no_second j);
      }))
