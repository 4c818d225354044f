-- Recording a pair keeps the columns tidy and the history written, and while a pair can be recorded the history has room.
use mathlib.Core.Bool.{Bool, true, false, cond}
use mathlib.Core.List.{List, [], ◌∷◌, ◌++◌}
use mathlib.Core.Path.{◌≡◌, refl, sym, ap, subst, ◌∙◌}
use mathlib.Core.Logic.{◌≢◌}
use Prim.Native.Nat.{ℕ, zero, suc, ◌+◌, ◌≤◌, ◌<◌}
use native.Mathlib.Decide.{ℕ_discrete}
use native.Mathlib.Omega.{arith}
use native.Mathlib.Numerals.{add-one}
use lib.Dec.{T, ltb, ltb→lt}
use lib.ListN.{get_or, set, length, length-set}
use lib.Seq.{get_or-set_same, get_or-set_other}
use borrow.Author.Tests.{lt-ltb, le-ltb}
use Rattle.sizes.specs.Sizes.{VOTES, HISTORY}
use Rattle.layouts.specs.Layout.{index_place, entry, entry_index, entry_pair}
use Rattle.layouts.proofs.Indices.{index_entry, pair_entry, entry_parts, entry_few}
use Rattle.loops.specs.Listing.{times, front}
use Rattle.loops.proofs.Tests.{T_true, true_T, false_not, same_test, dec_T}
use Rattle.loops.proofs.Listings.{times_here, times_past, times_end, times_not_end, length_front}
use Rattle.columns.specs.Lists.{padded}
use Rattle.columns.proofs.Padded.{length_padded, next_padded}
use Rattle.nodes.specs.Nodes.{col}
use Rattle.vote_insert.proofs.Keeps.{pigeon}
use Rattle.tracker.specs.declared.Votes.{Votes}
use Rattle.tracker.specs.Votes.{Wide, with_first, with_second}
use Rattle.vote_shape_laws.specs.Recorded.{Tidy, Written}
use Rattle.tracker.specs.Recorded.{paired}
use Rattle.vote_shape_laws.proofs.Histories.{pair_in}

front_set : (xs : List ℕ) (n k x : ℕ) → n ≤ k → front n (set xs k x) ≡ front n xs
unfolding front
front_set xs zero k x h = refl
front_set xs (suc n) k x h =
    let e : get_or (set xs k x) n 0 ≡ get_or xs n 0 = get_or-set_other xs k n x 0 (omega arith) in
    rw (front_set xs n k x (omega arith), e)

-- one more at the end of a column
front_more : (xs : List ℕ) (n x : ℕ) → n < length xs → front (n + 1) (set xs n x) ≡ front n xs ++ (x ∷ [])
unfolding front
front_more xs n x h = rw (add-one, front_set xs n n x (omega arith), get_or-set_same xs n x 0 h)

module _ (v : Votes) (s : length v.counts ≡ VOTES) (entries : List ℕ) (count : ℕ) where
  few_of : Written v entries count → (e : ℕ) → times e (front count entries) ≤ 1
  few_of w e = go (dec_T (paired v.counts e))
    where
      go : Dec (T (paired v.counts e)) → times e (front count entries) ≤ 1
      go (yes p) = let z : times e (front count entries) ≡ 1 = (rw (true_T (paired v.counts e) p) at (w.each e)) in omega arith
      go (no p) = let z : times e (front count entries) ≡ 0 = (rw (false_not (paired v.counts e) p) at (w.each e)) in omega arith

  -- a pair that is not recorded leaves room
  pub written_room : Written v entries count → (j : ℕ) → j < VOTES → col v.counts j < 2 → count < HISTORY
  written_room w j h l = omega (arith, length_front count entries, pigeon HISTORY (entry j 1 ∷ front count entries) each)
    where
      missing : (paired v.counts (entry j 1)) ≡ false
      missing = rw (index_entry j 1 (omega arith), pair_entry j 1 (omega arith)) (le-ltb 1 (col v.counts j) (omega arith))

      none : times (entry j 1) (front count entries) ≡ 0
      none = rw missing at (w.each (entry j 1))

      in_list : (x : ℕ) → 0 < times x (front count entries) → x < HISTORY
      in_list x p = go (dec_T (paired v.counts x))
        where
          go : Dec (T (paired v.counts x)) → x < HISTORY
          go (yes t) = pair_in v s x t
          go (no t) = absurd (let z : times x (front count entries) ≡ 0 = (rw (false_not (paired v.counts x) t) at (w.each x)) in omega arith)

      each : (x : ℕ) → 0 < times x (entry j 1 ∷ front count entries) → (x < HISTORY) × (times x (entry j 1 ∷ front count entries) ≤ 1)
      each x p = go (ℕ_discrete (entry j 1) x)
        where
          go : Dec (entry j 1 ≡ x) → (x < HISTORY) × (times x (entry j 1 ∷ front count entries) ≤ 1)
          go (yes e) =
              subst (λ (y : ℕ). (y < HISTORY) × (times y (entry j 1 ∷ front count entries) ≤ 1)) e
              (entry_few j 1 (omega arith) h, omega (arith, times_here (entry j 1) (front count entries), none))
          go (no n) =
              let z = times_past x (entry j 1) (front count entries) n in
              (in_list x (omega (arith, p, z)), omega (arith, z, few_of w x))

  -- pair k of index j recorded, and its entry e at the end
  pub written_keeps : Written v entries count → (j k e : ℕ) → j < VOTES → col v.counts j ≡ k → k < 2 → e ≡ entry j k → (u : Votes)
      → u.counts ≡ set v.counts j (k + 1) → Written u (set entries count e) (count + 1)
  written_keeps w j k e h n l q u t =
      record {
        fits = omega (arith, room);
        each = λ x. ap (times x) more ∙ each x (ℕ_discrete e x);
        clear =
            ap (λ (xs : List ℕ). set xs count e) w.clear
            ∙ subst (λ (z : ℕ). set (padded HISTORY (front count entries)) z e ≡ padded HISTORY (front count entries ++ (e ∷ []))) (length_front count entries)
            (next_padded HISTORY (front count entries) e (omega (arith, length_front count entries, room)))
            ∙ ap (padded HISTORY) (sym more);
      }
    where
      room : count < HISTORY
      room = written_room w j h (omega arith)

      sized : length entries ≡ HISTORY
      sized = ap length w.clear ∙ length_padded HISTORY (front count entries) (omega (arith, length_front count entries, room))

      more : front (count + 1) (set entries count e) ≡ front count entries ++ (e ∷ [])
      more = front_more entries count e (omega (arith, room, sized))

      half : entry_index e ≡ j
      half = ap entry_index q ∙ index_entry j k l

      rest : entry_pair e ≡ k
      rest = ap entry_pair q ∙ pair_entry j k l

      next : col u.counts j ≡ k + 1
      next = rw t (get_or-set_same v.counts j (k + 1) 0 (omega arith))

      unrecorded : paired v.counts e ≡ false
      unrecorded = rw (half, rest) (le-ltb k (col v.counts j) (omega arith))

      recorded : paired u.counts e ≡ true
      recorded = rw (half, rest) (lt-ltb k (col u.counts j) (omega (arith, next)))

      apart : (x : ℕ) → e ≢ x → entry_index x ≡ j → entry_pair x ≢ k
      apart x d i r = d (q ∙ sym (rw (i, r) at (sym (entry_parts x))))

      other : (x : ℕ) → e ≢ x → Dec (entry_index x ≡ j) → paired v.counts x ≡ paired u.counts x
      other x d (yes i) =
          rw (i, n, next)
          (same_test (ltb (entry_pair x) k) (ltb (entry_pair x) (k + 1))
          (λ a. T_true (lt-ltb (entry_pair x) (k + 1) (let b = ltb→lt (entry_pair x) k a in omega arith)))
          (λ a. T_true (lt-ltb (entry_pair x) k (let b = ltb→lt (entry_pair x) (k + 1) a in omega (arith, apart x d i)))))
      other x d (no i) = rw (t, get_or-set_other v.counts j (entry_index x) (k + 1) 0 i)

      each : (x : ℕ) → Dec (e ≡ x) → times x (front count entries ++ (e ∷ [])) ≡ cond (paired u.counts x) 1 0
      each x (yes d) =
          subst (λ (y : ℕ). times y (front count entries ++ (e ∷ [])) ≡ cond (paired u.counts y) 1 0) d
          (times_end e (front count entries) ∙ ap suc (w.each e ∙ ap (λ (b : Bool). cond b 1 0) unrecorded)
          ∙ ap (λ (b : Bool). cond b 1 0) (sym recorded))
      each x (no d) =
          times_not_end x e (front count entries) d ∙ w.each x ∙ ap (λ (b : Bool). cond b 1 0) (other x d (ℕ_discrete (entry_index x) j))

  pub written_first : Written v entries count → (j place signature : ℕ) → j < VOTES → col v.counts j ≡ 0
      → Written (with_first v j place signature) (set entries count (entry j 0)) (count + 1)
  written_first w j place signature h n =
      written_keeps w j 0 (entry j 0) h n (omega arith) refl (with_first v j place signature) refl

  pub written_second : Written v entries count → (j target number signature : ℕ) → j < VOTES → col v.counts j ≡ 1
      → Written (with_second v j target number signature) (set entries count (entry j 1)) (count + 1)
  written_second w j target number signature h n =
      written_keeps w j 1 (entry j 1) h n (omega arith) refl (with_second v j target number signature) refl

module _ (size : ℕ) (v : Votes) (w : Wide v) (j : ℕ) (h : j < VOTES) (l : index_place j < size) where
  pub tidy_first : Tidy size v → (place signature : ℕ) → col v.counts j ≡ 0 → Tidy size (with_first v j place signature)
  tidy_first t place signature n =
      record {
        few = λ i. few i (ℕ_discrete i j);
        none_past = λ i p. other i (λ e. omega (arith, p, l, ap index_place e)) ∙ t.none_past i p;
        no_first = λ i e. no_first i e (ℕ_discrete i j);
        no_second = λ i e. no_second i e (ℕ_discrete i j);
      }
    where
      here : col (set v.counts j 1) j ≡ 1
      here = get_or-set_same v.counts j 1 0 (omega (arith, w.counts_size))

      other : (i : ℕ) → i ≢ j → col (set v.counts j 1) i ≡ col v.counts i
      other i d = get_or-set_other v.counts j i 1 0 d

      few : (i : ℕ) → Dec (i ≡ j) → col (set v.counts j 1) i ≤ 2
      few i (yes e) = rw (e, here) (omega arith)
      few i (no d) = rw (other i d) (t.few i)

      no_first : (i : ℕ) → col (set v.counts j 1) i ≡ 0 → Dec (i ≡ j)
          → (col (set v.first_block j place) i ≡ 0) × (col (set v.first_signature j signature) i ≡ 0)
      no_first i z (yes e) = absurd (let q = subst (λ (m : ℕ). col (set v.counts j 1) m ≡ 0) e z in omega (arith, here))
      no_first i z (no d) =
          let r = t.no_first i (sym (other i d) ∙ z) in
          (get_or-set_other v.first_block j i place 0 d ∙ r.0, get_or-set_other v.first_signature j i signature 0 d ∙ r.1)

      no_second : (i : ℕ) → col (set v.counts j 1) i ≤ 1 → Dec (i ≡ j)
          → (col v.second_target i ≡ 0) × (col v.second_number i ≡ 0) × (col v.second_signature i ≡ 0)
      no_second i z (yes e) = rw e (t.no_second j (omega arith))
      no_second i z (no d) = t.no_second i (subst (λ (m : ℕ). m ≤ 1) (other i d) z)

  pub tidy_second : Tidy size v → (target number signature : ℕ) → col v.counts j ≡ 1 → Tidy size (with_second v j target number signature)
  tidy_second t target number signature n =
      record {
        few = λ i. few i (ℕ_discrete i j);
        none_past = λ i p. other i (λ e. omega (arith, p, l, ap index_place e)) ∙ t.none_past i p;
        no_first = λ i e. no_first i e (ℕ_discrete i j);
        no_second = λ i e. no_second i e (ℕ_discrete i j);
      }
    where
      here : col (set v.counts j 2) j ≡ 2
      here = get_or-set_same v.counts j 2 0 (omega (arith, w.counts_size))

      other : (i : ℕ) → i ≢ j → col (set v.counts j 2) i ≡ col v.counts i
      other i d = get_or-set_other v.counts j i 2 0 d

      few : (i : ℕ) → Dec (i ≡ j) → col (set v.counts j 2) i ≤ 2
      few i (yes e) = rw (e, here) (omega arith)
      few i (no d) = rw (other i d) (t.few i)

      no_first : (i : ℕ) → col (set v.counts j 2) i ≡ 0 → Dec (i ≡ j) → (col v.first_block i ≡ 0) × (col v.first_signature i ≡ 0)
      no_first i z (yes e) = absurd (let q = subst (λ (m : ℕ). col (set v.counts j 2) m ≡ 0) e z in omega (arith, here))
      no_first i z (no d) = t.no_first i (sym (other i d) ∙ z)

      no_second : (i : ℕ) → col (set v.counts j 2) i ≤ 1 → Dec (i ≡ j)
          → (col (set v.second_target j target) i ≡ 0) × (col (set v.second_number j number) i ≡ 0) × (col (set v.second_signature j signature) i ≡ 0)
      no_second i z (yes e) = absurd (let q = subst (λ (m : ℕ). col (set v.counts j 2) m ≤ 1) e z in omega (arith, here))
      no_second i z (no d) =
          let r = t.no_second i (subst (λ (m : ℕ). m ≤ 1) (other i d) z) in (
            get_or-set_other v.second_target j i target 0 d ∙ r.0,
            get_or-set_other v.second_number j i number 0 d ∙ r.1,
            get_or-set_other v.second_signature j i signature 0 d ∙ r.2,
          )

-- the columns keep their sizes
module _ (v : Votes) (w : Wide v) (j : ℕ) where
  pub wide_first : (place signature : ℕ) → Wide (with_first v j place signature)
  wide_first place signature =
      record {
        counts_size = length-set v.counts j 1 ∙ w.counts_size;
        first_block_size = length-set v.first_block j place ∙ w.first_block_size;
        first_signature_size = length-set v.first_signature j signature ∙ w.first_signature_size;
        second_target_size = w.second_target_size;
        second_number_size = w.second_number_size;
        second_signature_size = w.second_signature_size;
      }

  pub wide_second : (target number signature : ℕ) → Wide (with_second v j target number signature)
  wide_second target number signature =
      record {
        counts_size = length-set v.counts j 2 ∙ w.counts_size;
        first_block_size = w.first_block_size;
        first_signature_size = w.first_signature_size;
        second_target_size = length-set v.second_target j target ∙ w.second_target_size;
        second_number_size = length-set v.second_number j number ∙ w.second_number_size;
        second_signature_size = length-set v.second_signature j signature ∙ w.second_signature_size;
      }
