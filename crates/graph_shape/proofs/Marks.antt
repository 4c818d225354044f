-- What it means that the first places of a column are the marked ones, once each, and the rest 0.
use mathlib.Core.Bool.{Bool, false, not, ◌&&◌, ◌||◌}
use mathlib.Core.List.{List, [], ◌∷◌, ◌++◌}
use mathlib.Core.Path.{◌≡◌, refl, sym, ap, subst, ◌∙◌}
use mathlib.Core.Logic.{◌≢◌, ◌⊎◌, inl, inr}
use Prim.Native.Nat.{ℕ, zero, suc, ◌≤◌, ◌<◌}
use native.Mathlib.Decide.{dec_lt, ℕ_discrete}
use native.Mathlib.Omega.{arith}
use lib.Dec.{T, eqb, ltb, eqb→eq, ltb→lt, T_not, not_T}
use lib.ListN.{get_or, set, length, length-set, get_or-append, get_or-eq_default}
use lib.Seq.{get_or-set_other, ext_get_or, get_or_at}
use borrow.Author.Tests.{eq-eqb, ne_eqb, lt-ltb}
use Rattle.loops.specs.All.{all}
use Rattle.loops.specs.Listing.{times, some_of, fold, front}
use Rattle.loops.proofs.Tests.{T_true, both, left_of, right_of, in_left, in_right, either, and_true, and_false}
use Rattle.loops.proofs.Alls.{all_at, all_intro}
use Rattle.loops.proofs.Listings.{times_none, times_end, times_not_end, some_at, some_intro, length_front}
use Rattle.columns.specs.Lists.{padded}
use Rattle.columns.proofs.Padded.{length_padded, get_padded}
use Rattle.columns.specs.Blank.{blank}
use Rattle.nodes.specs.Nodes.{col, flag}
use Rattle.lists.specs.Laid.{struck, unmarked, none_left, fresh, once_each}

pub unset : (marks : List Bool) (x : ℕ) → get_or (set marks x false) x false ≡ false
unset [] x = refl
unset (b ∷ marks) zero = refl
unset (b ∷ marks) (suc x) = unset marks x

pub struck_length : (f : ℕ → ℕ) (l : List ℕ) (marks : List Bool) → length (struck f l marks) ≡ length marks
unfolding struck fold
struck_length f [] marks = refl
struck_length f (y ∷ l) marks = struck_length f l (set marks (f y) false) ∙ length-set marks (f y) false

module _ (f : ℕ → ℕ) (x : ℕ) where
  struck_at : (l : List ℕ) (marks : List Bool) → flag (struck f l marks) x ≡ (flag marks x && not (some_of (λ n. eqb (f n) x) l))
  unfolding struck fold some_of
  struck_at [] marks = sym (and_true (flag marks x))
  struck_at (y ∷ l) marks = go (ℕ_discrete (f y) x) (struck_at l (set marks (f y) false))
    where
      go : Dec (f y ≡ x) → flag (struck f l (set marks (f y) false)) x ≡ (flag (set marks (f y) false) x && not (some_of (λ n. eqb (f n) x) l))
          → flag (struck f l (set marks (f y) false)) x ≡ (flag marks x && not (eqb (f y) x || some_of (λ n. eqb (f n) x) l))
      go (yes e) r =
          let o : flag (set marks (f y) false) x ≡ false = rw e (unset marks x) in
          r ∙ rw (o, eq-eqb (f y) x e) (sym (and_false (flag marks x)))
      go (no n) r =
          let o : flag (set marks (f y) false) x ≡ flag marks x = get_or-set_other marks (f y) x false false (λ e. n (sym e)) in
          r ∙ rw (o, ne_eqb (f y) x n)

  -- a mark that is left was there, and no place of the list took it away
  pub left_says : (l : List ℕ) (marks : List Bool) → T (flag (struck f l marks) x) → T (flag marks x) × ((n : ℕ) → 0 < times n l → f n ≢ x)
  left_says l marks t =
      let s = subst T (struck_at l marks) t in (
        left_of (flag marks x) _ s,
        λ n h e. T_not (some_of (λ m. eqb (f m) x) l) (right_of (flag marks x) _ s)
            (some_intro (λ m. eqb (f m) x) l n h (T_true (eq-eqb (f n) x e))),
      )

  pub says_left : (l : List ℕ) (marks : List Bool) → T (flag marks x) → ((n : ℕ) → 0 < times n l → f n ≢ x) → T (flag (struck f l marks) x)
  says_left l marks t h =
      subst T (sym (struck_at l marks))
      (both (flag marks x) _ t
      (not_T (some_of (λ m. eqb (f m) x) l) (λ s. let r = some_at (λ m. eqb (f m) x) l s in h r.0 r.1 (eqb→eq (f r.0) x r.2))))

module _ (xs : List ℕ) where
  pub front_grows : (x k n : ℕ) → k ≤ n → times x (front k xs) ≤ times x (front n xs)
  unfolding front
  front_grows x k zero h =
      let e : k ≡ 0 = omega arith in
      rw e (omega arith)
  front_grows x k (suc n) h = go (ℕ_discrete k (suc n)) (front_grows x k n) (ℕ_discrete (get_or xs n 0) x)
    where
      go : Dec (k ≡ suc n) → (k ≤ n → times x (front k xs) ≤ times x (front n xs)) → Dec (get_or xs n 0 ≡ x)
          → times x (front k xs) ≤ times x (front n xs ++ (get_or xs n 0 ∷ []))
      go (yes e) r d = rw e (omega arith)
      go (no e) r (yes q) = rw q (omega (arith, r (omega arith), times_end x (front n xs)))
      go (no e) r (no q) = omega (arith, r (omega arith), times_not_end x (get_or xs n 0) (front n xs) q)

  pub front_next : (x k : ℕ) → get_or xs k 0 ≡ x → times x (front (suc k) xs) ≡ suc (times x (front k xs))
  unfolding front
  front_next x k e = rw e (times_end x (front k xs))

  pub front_past : (x k : ℕ) → get_or xs k 0 ≢ x → times x (front (suc k) xs) ≡ times x (front k xs)
  unfolding front
  front_past x k n = times_not_end x (get_or xs k 0) (front k xs) n

  pub in_front : (k n : ℕ) → k < n → 0 < times (get_or xs k 0) (front n xs)
  in_front k n h = omega (arith, front_grows (get_or xs k 0) (suc k) n h, front_next (get_or xs k 0) k refl)

  pub front_at : (k n : ℕ) → k < n → get_or (front n xs) k 0 ≡ get_or xs k 0
  unfolding front
  front_at k zero h = absurd (omega arith)
  front_at k (suc n) h = go (ℕ_discrete k n) (front_at k n)
    where
      go : Dec (k ≡ n) → (k < n → get_or (front n xs) k 0 ≡ get_or xs k 0) → get_or (front n xs ++ (get_or xs n 0 ∷ [])) k 0 ≡ get_or xs k 0
      go (yes e) r = rw e (get_or_at (front n xs) (get_or xs n 0) [] 0 n (length_front n xs))
      go (no e) r = get_or-append (front n xs) _ 0 k (omega (arith, length_front n xs)) ∙ r (omega arith)

  -- the rest 0
  pub blank_padded : (size n : ℕ) → length xs ≡ size → n ≤ size → T (blank xs n size) → xs ≡ padded size (front n xs)
  unfolding blank
  blank_padded size n s h t =
      ext_get_or 0 xs (padded size (front n xs)) (s ∙ sym (length_padded size (front n xs) (omega (arith, length_front n xs))))
      (λ i l. at i l (dec_lt i n) ∙ sym (get_padded size (front n xs) i))
    where
      at : (i : ℕ) → i < length xs → Dec (i < n) → get_or xs i 0 ≡ get_or (front n xs) i 0
      at i l (yes m) = sym (front_at i n m)
      at i l (no m) = side (either (ltb i n) _ (all_at _ size t i (omega (arith, s))))
        where
          side : T (ltb i n) ⊎ T (eqb (get_or xs i 0) 0) → get_or xs i 0 ≡ get_or (front n xs) i 0
          side (inl q) = absurd (m (ltb→lt i n q))
          side (inr q) = eqb→eq _ _ q ∙ sym (get_or-eq_default (front n xs) 0 (omega (arith, length_front n xs)))

  pub padded_blank : (size n : ℕ) → xs ≡ padded size (front n xs) → T (blank xs n size)
  unfolding blank
  padded_blank size n e = all_intro _ size (λ k h. go k (dec_lt k n))
    where
      go : (k : ℕ) → Dec (k < n) → T (ltb k n || eqb (get_or xs k 0) 0)
      go k (yes l) = in_left (ltb k n) (eqb (get_or xs k 0) 0) (T_true (lt-ltb k n l))
      go k (no l) =
          in_right (ltb k n) (eqb (get_or xs k 0) 0)
          (T_true (eq-eqb _ _
          (ap (λ (ys : List ℕ). get_or ys k 0) e ∙ get_padded size (front n xs) k
          ∙ get_or-eq_default (front n xs) 0 (omega (arith, length_front n xs)))))

-- the first n places are the marked ones, once each
pub record Once (places : List ℕ) (n : ℕ) (marks : List Bool) : Type 0 where
  pub there : (x : ℕ) → T (flag marks x) → times x (front n places) ≡ 1
  pub only : (x : ℕ) → 0 < times x (front n places) → T (flag marks x)

module _ (size : ℕ) (places : List ℕ) (n : ℕ) (marks : List Bool) where
  -- a fresh place is marked, and in no place before
  fresh_says : (k : ℕ) → T (fresh places marks k) → T (flag marks (col places k)) × (times (col places k) (front k places) ≡ 0)
  fresh_says k t =
      let s = left_says (λ y. y) (col places k) (front k places) marks t in
      (s.0, none (ℕ_discrete (times (col places k) (front k places)) 0) (s.1 (col places k)))
    where
      none : Dec (times (col places k) (front k places) ≡ 0) → (0 < times (col places k) (front k places) → col places k ≢ col places k)
          → times (col places k) (front k places) ≡ 0
      none (yes e) h = e
      none (no e) h = absurd (h (omega arith) refl)

  pub once_says : length marks ≡ size → T (once_each size places n marks) → Once places n marks
  unfolding once_each none_left
  once_says s t =
      record { there = λ x m. one x m (ℕ_discrete (times x (front n places)) 0); only = λ x h. (upto n (omega arith) x).1 h }
    where
      Upto : ℕ → ℕ → Type 0
      Upto k x = (times x (front k places) ≤ 1) × (0 < times x (front k places) → T (flag marks x))

      upto : (k : ℕ) → k ≤ n → (x : ℕ) → Upto k x
      upto zero h x = let e : times x (front 0 places) ≡ 0 = (unfold front in times_none x) in (omega arith, λ l. absurd (omega arith))
      upto (suc k) h x =
          go (ℕ_discrete (get_or places k 0) x) (upto k (omega arith) x)
          (fresh_says k (all_at (fresh places marks) n (left_of (all n (fresh places marks)) _ t) k (omega arith)))
        where
          go : Dec (get_or places k 0 ≡ x) → Upto k x → T (flag marks (col places k)) × (times (col places k) (front k places) ≡ 0) → Upto (suc k) x
          go (yes e) r q =
              let z : times x (front k places) ≡ 0 = subst (λ (y : ℕ). times y (front k places) ≡ 0) e q.1 in
              (omega (arith, front_next places x k e), λ l. subst (λ (y : ℕ). T (flag marks y)) e q.0)
          go (no e) r q = (omega (arith, front_past places x k e), λ l. r.1 (omega (arith, front_past places x k e)))

      one : (x : ℕ) → T (flag marks x) → Dec (times x (front n places) ≡ 0) → times x (front n places) ≡ 1
      one x m (no e) = omega (arith, (upto n (omega arith) x).0)
      one x m (yes e) = absurd (go (dec_lt x size))
        where
          go : Dec (x < size) → ⊥
          go (yes l) =
              T_not (flag (unmarked (front n places) marks) x)
              (all_at _ size (right_of (all n (fresh places marks)) _ t) x l)
              (says_left (λ y. y) x (front n places) marks m (λ y h q. let z : times y (front n places) ≡ 0 = rw q e in omega arith))
          go (no l) = subst T (get_or-eq_default marks false (omega arith)) m

  pub says_once : Once places n marks → T (once_each size places n marks)
  unfolding once_each none_left
  says_once o =
      both (all n (fresh places marks)) _ (all_intro (fresh places marks) n new)
      (all_intro _ size (λ x l. not_T (flag (unmarked (front n places) marks) x) (λ t. missed x (left_says (λ y. y) x (front n places) marks t))))
    where
      new : (k : ℕ) → k < n → T (fresh places marks k)
      new k h =
          let m = o.only (col places k) (in_front places k n h) in
          says_left (λ y. y) (col places k) (front k places) marks m
          (λ y l e.
          let z : 0 < times (col places k) (front k places) = rw (← e) l in
          omega (arith, o.there (col places k) m, front_grows places (col places k) (suc k) n h, front_next places (col places k) k refl))

      missed : (x : ℕ) → T (flag marks x) × ((y : ℕ) → 0 < times y (front n places) → y ≢ x) → ⊥
      missed x s = s.1 x (omega (arith, o.there x s.0)) refl
