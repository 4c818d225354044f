-- Lists of places by counting.
use mathlib.Core.Bool.{Bool, true, false, cond, not, ◌&&◌, ◌||◌}
use mathlib.Core.List.{List, [], ◌∷◌, ◌++◌}
use mathlib.Core.Path.{◌≡◌, refl, sym, ap, subst, ◌∙◌}
use mathlib.Core.Logic.{◌≢◌, ◌⊎◌, inl, inr}
use Prim.Native.Nat.{ℕ, zero, suc, ◌+◌, ◌≤◌, ◌<◌}
use native.Mathlib.Numerals.{add-one}
use native.Mathlib.Decide.{ℕ_discrete}
use native.Mathlib.Omega.{arith}
use lib.Dec.{T, eqb, eqb→eq, eqb_refl}
use lib.ListN.{get_or, length, length-append}
use borrow.Author.Tests.{eq-eqb, ne_eqb}
use Rattle.loops.specs.Listing.{times, keep, some_of, fold, front}
use Rattle.loops.proofs.Tests.{in_left, in_right, either, by_test, true_T}

pub times_append : (x : ℕ) (a b : List ℕ) → times x (a ++ b) ≡ times x a + times x b
unfolding times
times_append x [] b = omega arith
times_append x (y ∷ a) b = omega (arith, times_append x a b)

pub times_here : (x : ℕ) (l : List ℕ) → times x (x ∷ l) ≡ suc (times x l)
unfolding times
times_here x l = rw (eq-eqb x x refl) (omega arith)

pub times_past : (x y : ℕ) (l : List ℕ) → y ≢ x → times x (y ∷ l) ≡ times x l
unfolding times
times_past x y l n = rw (ne_eqb y x n) (omega arith)

pub times_none : (x : ℕ) → times x [] ≡ 0
unfolding times
times_none x = refl

pub times_more : (x y : ℕ) (l : List ℕ) → 0 < times x l → 0 < times x (y ∷ l)
times_more x y l h = go (ℕ_discrete y x)
  where
    go : Dec (y ≡ x) → 0 < times x (y ∷ l)
    go (yes e) = rw e (omega (arith, times_here x l))
    go (no n) = omega (arith, times_past x y l n)

pub times_end : (x : ℕ) (l : List ℕ) → times x (l ++ (x ∷ [])) ≡ suc (times x l)
times_end x l = omega (arith, times_append x l (x ∷ []), times_here x [], times_none x)

pub times_not_end : (x y : ℕ) (l : List ℕ) → y ≢ x → times x (l ++ (y ∷ [])) ≡ times x l
times_not_end x y l n = omega (arith, times_append x l (y ∷ []), times_past x y [] n, times_none x)

pub times_keep : (p : ℕ → Bool) (x : ℕ) (l : List ℕ) → times x (keep p l) ≡ cond (p x) (times x l) 0
unfolding keep
times_keep p x [] = rw (times_none x) (both_none (p x))
  where
    both_none : (b : Bool) → ◌≡◌ {A = ℕ} 0 (cond b 0 0)
    both_none true = refl
    both_none false = refl
times_keep p x (y ∷ l) = go (ℕ_discrete y x) (p y) refl (times_keep p x l)
  where
    go : Dec (y ≡ x) → (b : Bool) → p y ≡ b → times x (keep p l) ≡ cond (p x) (times x l) 0
        → times x (cond b (y ∷ keep p l) (keep p l)) ≡ cond (p x) (times x (y ∷ l)) 0
    go (yes e) true q r =
        let px : p x ≡ true = ap p (sym e) ∙ q in
        rw (e, times_here, times_here, px) (ap suc (r ∙ ap (λ (b : Bool). cond b (times x l) 0) px))
    go (yes e) false q r =
        let px : p x ≡ false = ap p (sym e) ∙ q in
        rw px (r ∙ ap (λ (b : Bool). cond b (times x l) 0) px)
    go (no n) true q r = rw (times_past x y (keep p l) n, times_past x y l n) r
    go (no n) false q r = rw (times_past x y l n) r

-- membership and `some_of`
pub some_at : (p : ℕ → Bool) (l : List ℕ) → T (some_of p l) → (x : ℕ) × (0 < times x l) × T (p x)
unfolding some_of
some_at p [] t = absurd t
some_at p (y ∷ l) t = go (either (p y) (some_of p l) t) (some_at p l)
  where
    go : T (p y) ⊎ T (some_of p l) → (T (some_of p l) → (x : ℕ) × (0 < times x l) × T (p x)) → (x : ℕ) × (0 < times x (y ∷ l)) × T (p x)
    go (inl h) r = (y, omega (arith, times_here y l), h)
    go (inr h) r = let s = r h in (s.0, times_more s.0 y l s.1, s.2)

pub some_intro : (p : ℕ → Bool) (l : List ℕ) (x : ℕ) → 0 < times x l → T (p x) → T (some_of p l)
unfolding some_of
some_intro p [] x h t = absurd (omega (arith, times_none x))
some_intro p (y ∷ l) x h t = go (ℕ_discrete y x) (some_intro p l x)
  where
    go : Dec (y ≡ x) → (0 < times x l → T (p x) → T (some_of p l)) → T (p y || some_of p l)
    go (yes e) r = in_left (p y) (some_of p l) (subst (λ (z : ℕ). T (p z)) (sym e) t)
    go (no n) r = in_right (p y) (some_of p l) (r (omega (arith, times_past x y l n)) t)

pub keep_append : (p : ℕ → Bool) (a b : List ℕ) → keep p (a ++ b) ≡ keep p a ++ keep p b
unfolding keep
keep_append p [] b = refl
keep_append p (x ∷ a) b = go (p x) (keep_append p a b)
  where
    go : (z : Bool) → keep p (a ++ b) ≡ keep p a ++ keep p b
        → cond z (x ∷ keep p (a ++ b)) (keep p (a ++ b)) ≡ cond z (x ∷ keep p a) (keep p a) ++ keep p b
    go true r = ap (λ (l : List ℕ). x ∷ l) r
    go false r = r

pub keep_cong : (p q : ℕ → Bool) (l : List ℕ) → ((x : ℕ) → 0 < times x l → p x ≡ q x) → keep p l ≡ keep q l
unfolding keep
keep_cong p q [] h = refl
keep_cong p q (x ∷ l) h =
    rw (h x (omega (arith, times_here x l)), keep_cong p q l (λ y m. h y (times_more y x l m)))

pub fold_append : {A : Type 0} (s : ℕ → A → A) (a b : List ℕ) (v : A) → fold s (a ++ b) v ≡ fold s b (fold s a v)
unfolding fold
fold_append s [] b v = refl
fold_append s (x ∷ a) b v = fold_append s a b (s x v)

-- the turn of a counting loop over a column
pub fold_front : {A : Type 0} (s : ℕ → A → A) (k : ℕ) (xs : List ℕ) (v : A)
    → fold s (front (k + 1) xs) v ≡ s (get_or xs k 0) (fold s (front k xs) v)
unfolding fold front
fold_front s k xs v = rw add-one (fold_append s (front k xs) (get_or xs k 0 ∷ []) v)

pub length_front : (n : ℕ) (xs : List ℕ) → length (front n xs) ≡ n
unfolding front
length_front zero xs = refl
length_front (suc n) xs = omega (arith, length-append (front n xs) (get_or xs n 0 ∷ []), length_front n xs)

pub keep_none : (p : ℕ → Bool) (l : List ℕ) → ((x : ℕ) → 0 < times x l → p x ≡ false) → keep p l ≡ []
unfolding keep
keep_none p [] h = refl
keep_none p (x ∷ l) h = rw (h x (omega (arith, times_here x l))) (keep_none p l (λ y m. h y (times_more y x l m)))

pub keep_every : (p : ℕ → Bool) (l : List ℕ) → ((x : ℕ) → 0 < times x l → p x ≡ true) → keep p l ≡ l
unfolding keep
keep_every p [] h = refl
keep_every p (x ∷ l) h = rw (h x (omega (arith, times_here x l))) (ap (λ (m : List ℕ). x ∷ m) (keep_every p l (λ y m. h y (times_more y x l m))))

pub keep_swap : (p q : ℕ → Bool) (l : List ℕ) → keep p (keep q l) ≡ keep q (keep p l)
unfolding keep
keep_swap p q [] = refl
keep_swap p q (x ∷ l) = go (p x) refl (q x) refl (keep_swap p q l)
  where
    go : (a : Bool) → p x ≡ a → (b : Bool) → q x ≡ b → keep p (keep q l) ≡ keep q (keep p l)
        → keep p (cond b (x ∷ keep q l) (keep q l)) ≡ keep q (cond a (x ∷ keep p l) (keep p l))
    go true e true f r = rw (e, f) (ap (λ (m : List ℕ). x ∷ m) r)
    go true e false f r = rw f r
    go false e true f r = rw e r
    go false e false f r = r

-- what is kept was there and passes
pub kept_in : (p : ℕ → Bool) (x : ℕ) (l : List ℕ) → 0 < times x (keep p l) → (0 < times x l) × T (p x)
kept_in p x l h = go (p x) refl (times_keep p x l)
  where
    go : (b : Bool) → p x ≡ b → times x (keep p l) ≡ cond b (times x l) 0 → (0 < times x l) × T (p x)
    go true e q = (omega arith, subst T (sym e) tt)
    go false e q = absurd (omega arith)

pub in_kept : (p : ℕ → Bool) (x : ℕ) (l : List ℕ) → 0 < times x l → T (p x) → 0 < times x (keep p l)
in_kept p x l h t = omega (arith, times_keep p x l, ap (λ (b : Bool). cond b (times x l) 0) (true_T (p x) t))
