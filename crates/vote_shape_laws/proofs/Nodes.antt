-- What it means that the vote-nodes are the base and the targets of first votes, and that bits are as the votes say.
use mathlib.Core.Bool.{Bool, true, false, not, ◌&&◌, ◌||◌, beq}
use mathlib.Core.List.{List}
use mathlib.Core.Path.{◌≡◌, refl, sym, subst, ◌∙◌}
use mathlib.Core.Logic.{◌≢◌, ◌⊎◌, inl, inr}
use Prim.Native.Nat.{ℕ, ◌≤◌, ◌<◌}
use native.Mathlib.Decide.{dec_lt, ℕ_discrete}
use native.Mathlib.Omega.{arith}
use lib.Dec.{T, eqb, leb, ltb, eqb→eq, leb→le, ltb→lt, T_not, not_T}
use lib.ListN.{length, get_or-eq_default}
use borrow.Author.Tests.{eq-eqb, le-leb, lt-ltb}
use Rattle.sizes.specs.Sizes.{WORDS, VOTES, BLOCKS}
use Rattle.loops.specs.All.{any}
use Rattle.loops.proofs.Tests.{T_true, both, left_of, right_of, in_left, in_right, either, dec_T}
use Rattle.loops.proofs.Alls.{all_at, all_intro, any_at, any_intro}
use Rattle.grandpa.specs.Vote.{lands, equivocated}
use Rattle.bitfield.specs.Bits.{has}
use Rattle.bitfield.proofs.Sets.{has_past}
use Rattle.graph.specs.Shape.{Targets, Bits, Voted, UsedOnly}
use Rattle.nodes.specs.Nodes.{col, flag, row}
use Rattle.tracker.specs.declared.Votes.{Votes}
use Rattle.tracker.specs.Recorded.{cast}
use Rattle.vote_bits.specs.Told.{aims, lies, same_bits, told, doubled}
use Rattle.vote_shape.specs.Voted.{marks, noted, targets_used, only_marked, noded}
use Rattle.vote_shape.proofs.Marks.{length_marks, marks_at}
use Rattle.vote_bits.proofs.Sames.{beq_eq}
use Rattle.vote_shape_laws.proofs.Casts.{past, eq_beq, lands_cast, twice_cast, aim_cast, cast_aim, spoken_in}

-- a marked place is within the column
pub marked_in : (ms : List Bool) (x : ℕ) → length ms ≡ BLOCKS → T (flag ms x) → x < BLOCKS
marked_in ms x s t = go (dec_lt x BLOCKS)
  where
    go : Dec (x < BLOCKS) → x < BLOCKS
    go (yes l) = l
    go (no l) = absurd (subst T (get_or-eq_default ms false (omega arith)) t)

module _ (base : ℕ) (used : List Bool) (v : Votes) (s : length v.counts ≡ VOTES) where
  targets_says : T (targets_used used v.counts v.first_block) → (j x : ℕ) → Targets (cast v j) x → T (flag used x)
  unfolding targets_used
  targets_says t j x a = go (aim_cast v j x a)
    where
      go : (0 < col v.counts j) × (col v.first_block j ≡ x) → T (flag used x)
      go q = side (either (leb (col v.counts j) 0) _ (all_at _ VOTES t j (spoken_in v j s q.0)))
        where
          side : T (leb (col v.counts j) 0) ⊎ T (flag used (col v.first_block j)) → T (flag used x)
          side (inl l) = absurd (let k = leb→le (col v.counts j) 0 l in omega (arith, q.0))
          side (inr u) = subst (λ (y : ℕ). T (flag used y)) q.1 u

  says_targets : ((j x : ℕ) → Targets (cast v j) x → T (flag used x)) → T (targets_used used v.counts v.first_block)
  unfolding targets_used
  says_targets f = all_intro _ VOTES (λ j h. go j (dec_lt 0 (col v.counts j)))
    where
      go : (j : ℕ) → Dec (0 < col v.counts j) → T (leb (col v.counts j) 0 || flag used (col v.first_block j))
      go j (yes l) = in_right (leb (col v.counts j) 0) _ (f j (col v.first_block j) (cast_aim v j (col v.first_block j) l refl))
      go j (no l) = in_left (leb (col v.counts j) 0) _ (T_true (le-leb (col v.counts j) 0 (omega arith)))

  -- the base and the targets, by the test and by the votes
  noted_says : (x : ℕ) → T (noted base v.counts v.first_block x) → x ≢ base → (j : ℕ) × Targets (cast v j) x
  noted_says x t n = go (either (eqb x base) _ t)
    where
      go : T (eqb x base) ⊎ T (any VOTES (aims v.counts v.first_block x)) → (j : ℕ) × Targets (cast v j) x
      go (inl e) = absurd (n (eqb→eq x base e))
      go (inr a) =
          let r = any_at (aims v.counts v.first_block x) VOTES a in (
            r.0,
            cast_aim v r.0 x (ltb→lt 0 (col v.counts r.0) (left_of (ltb 0 (col v.counts r.0)) _ r.2))
                (eqb→eq (col v.first_block r.0) x (right_of (ltb 0 (col v.counts r.0)) _ r.2)),
          )

  says_noted : (x : ℕ) → (x ≢ base → (j : ℕ) × Targets (cast v j) x) → T (noted base v.counts v.first_block x)
  says_noted x f = go (ℕ_discrete x base)
    where
      go : Dec (x ≡ base) → T (noted base v.counts v.first_block x)
      go (yes e) = in_left (eqb x base) _ (T_true (eq-eqb x base e))
      go (no n) =
          let r = f n in
          let q = aim_cast v r.0 x r.1 in
          in_right (eqb x base) _
          (any_intro (aims v.counts v.first_block x) VOTES r.0 (spoken_in v r.0 s q.0)
          (both (ltb 0 (col v.counts r.0)) _ (T_true (lt-ltb 0 (col v.counts r.0) q.0)) (T_true (eq-eqb (col v.first_block r.0) x q.1))))

  only_says : length used ≡ BLOCKS → T (only_marked used (marks BLOCKS (noted base v.counts v.first_block))) → UsedOnly base (cast v) (flag used)
  unfolding only_marked
  only_says w t x u n = go (either (not (flag used x)) _ (all_at _ BLOCKS t x (marked_in used x w u)))
    where
      go : T (not (flag used x)) ⊎ T (flag (marks BLOCKS (noted base v.counts v.first_block)) x) → (j : ℕ) × Targets (cast v j) x
      go (inl m) = absurd (T_not (flag used x) m u)
      go (inr m) = noted_says x (subst T (marks_at (noted base v.counts v.first_block) BLOCKS x (marked_in used x w u)) m) n

  says_only : UsedOnly base (cast v) (flag used) → T (only_marked used (marks BLOCKS (noted base v.counts v.first_block)))
  unfolding only_marked
  says_only f = all_intro _ BLOCKS (λ x h. go x h (dec_T (flag used x)))
    where
      go : (x : ℕ) → x < BLOCKS → Dec (T (flag used x)) → T (not (flag used x) || flag (marks BLOCKS (noted base v.counts v.first_block)) x)
      go x h (yes u) =
          in_right (not (flag used x)) _
          (subst T (sym (marks_at (noted base v.counts v.first_block) BLOCKS x h)) (says_noted x (f x u)))
      go x h (no m) = in_left (not (flag used x)) _ (not_T (flag used x) m)

  pub noded_says : length used ≡ BLOCKS → T (noded base used v.counts v.first_block)
      → T (flag used base) × Voted (cast v) (flag used) × UsedOnly base (cast v) (flag used)
  unfolding noded
  noded_says w t =
      let a = right_of (flag used base) _ t in (
        left_of (flag used base) _ t,
        record { target_used = targets_says (left_of (targets_used used v.counts v.first_block) _ a) },
        only_says w (right_of (targets_used used v.counts v.first_block) _ a),
      )

  pub says_noded : T (flag used base) → Voted (cast v) (flag used) → UsedOnly base (cast v) (flag used) → T (noded base used v.counts v.first_block)
  unfolding noded
  says_noded u q only =
      both (flag used base) _ u (both (targets_used used v.counts v.first_block) _ (says_targets q.target_used) (says_only only))

module _ (parents : List ℕ) (used : List Bool) (rows : List (List ℕ)) (v : Votes) where
  pub told_says : length v.counts ≡ VOTES → length used ≡ BLOCKS → ((x : ℕ) → x < BLOCKS → length (row rows x) ≡ WORDS)
      → T (told parents used rows v.counts v.first_block) → Bits (col parents) (cast v) (flag used) (row rows)
  unfolding told
  told_says s w r t =
      record { words = λ x u. r x (marked_in used x w u); told = λ x u j. at x u j (dec_lt j VOTES) ∙ sym (lands_cast v j (col parents) x) }
    where
      here : (x : ℕ) → T (flag used x) → T (same_bits (row rows x) (lies parents v.counts v.first_block x))
      here x u = go (either (not (flag used x)) _ (all_at _ BLOCKS t x (marked_in used x w u)))
        where
          go : T (not (flag used x)) ⊎ T (same_bits (row rows x) (lies parents v.counts v.first_block x))
              → T (same_bits (row rows x) (lies parents v.counts v.first_block x))
          go (inl m) = absurd (T_not (flag used x) m u)
          go (inr b) = b

      at : (x : ℕ) → T (flag used x) → (j : ℕ) → Dec (j < VOTES) → has (row rows x) j ≡ lies parents v.counts v.first_block x j
      at x u j (yes l) = beq_eq (has (row rows x) j) (lies parents v.counts v.first_block x j) (all_at _ VOTES (here x u) j l)
      at x u j (no l) =
          let z : col v.counts j ≡ 0 = past v.counts VOTES j s (omega arith) in
          rw z (has_past (row rows x) j (omega (arith, r x (marked_in used x w u))))

  pub says_told : Bits (col parents) (cast v) (flag used) (row rows) → T (told parents used rows v.counts v.first_block)
  unfolding told
  says_told b = all_intro _ BLOCKS (λ x h. go x (dec_T (flag used x)))
    where
      go : (x : ℕ) → Dec (T (flag used x)) → T (not (flag used x) || same_bits (row rows x) (lies parents v.counts v.first_block x))
      go x (yes u) =
          in_right (not (flag used x)) _
          (all_intro _ VOTES (λ j h. eq_beq (has (row rows x) j) (lies parents v.counts v.first_block x j) (b.told x u j ∙ lands_cast v j (col parents) x)))
      go x (no m) = in_left (not (flag used x)) _ (not_T (flag used x) m)

module _ (v : Votes) (equivocations : List ℕ) where
  pub doubled_says : length v.counts ≡ VOTES → length equivocations ≡ WORDS → T (doubled v.counts equivocations)
      → (j : ℕ) → has equivocations j ≡ equivocated (cast v j)
  unfolding doubled
  doubled_says s w t j = at (dec_lt j VOTES) ∙ sym (twice_cast v j)
    where
      at : Dec (j < VOTES) → has equivocations j ≡ ltb 1 (col v.counts j)
      at (yes l) = beq_eq (has equivocations j) (ltb 1 (col v.counts j)) (all_at _ VOTES t j l)
      at (no l) =
          let z : col v.counts j ≡ 0 = past v.counts VOTES j s (omega arith) in
          rw z (has_past equivocations j (omega arith))

  pub says_doubled : ((j : ℕ) → has equivocations j ≡ equivocated (cast v j)) → T (doubled v.counts equivocations)
  unfolding doubled
  says_doubled f =
      all_intro _ VOTES (λ j h. eq_beq (has equivocations j) (ltb 1 (col v.counts j)) (f j ∙ twice_cast v j))
