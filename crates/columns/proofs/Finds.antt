-- What `find` and `contains` mean.
use mathlib.Core.Bool.{Bool, true, false, ◌||◌}
use mathlib.Core.List.{List}
use mathlib.Core.Path.{◌≡◌, refl, subst, sym, ◌∙◌}
use mathlib.Core.Logic.{◌⊎◌, inl, inr}
use Prim.Native.Nat.{ℕ, ◌+◌, ◌-◌, ◌≤◌, ◌<◌}
use native.Mathlib.Omega.{arith}
use lib.Dec.{T, eqb→eq}
use lib.ListN.{length, get_or, take, drop}
use borrow.Author.Tests.{eq-eqb}
use Rattle.loops.specs.Loop.{first}
use Rattle.loops.specs.All.{any}
use Rattle.loops.proofs.Tests.{T_true, true_T, false_not}
use Rattle.loops.proofs.Loops.{first_hit, first_end}
use Rattle.loops.proofs.Alls.{any_at, any_intro}
use Rattle.loops.proofs.Firsts.{Least, first_cases, first_least, first_none, first_skip}
use Rattle.columns.specs.Find.{used, is_at, find, contains}
use Rattle.std.specs.Prelude.{Some, None}
use Rattle.std.proofs.lemmas.List.{get_or-drop, get_or-take, length-drop, length-take}

module _ (column : List ℕ) (count x : ℕ) where
  pub used_whole : count ≤ length column → used column count ≡ count
  used_whole h = omega arith

  -- the place that is found is the first used one where x stands
  pub find_at : (k : ℕ) → find column count x ≡ Some k → Least (is_at column x) (used column count) k
  unfolding find
  find_at k e = go (first_cases (is_at column x) (used column count))
    where
      go : ((j : ℕ) × Least (is_at column x) (used column count) j) ⊎ ((j : ℕ) → j < used column count → T (is_at column x j) → ⊥)
          → Least (is_at column x) (used column count) k
      go (inl (j, l)) =
          let s = first_least (is_at column x) Some None (used column count) j l in
          let q : j ≡ k = cc in
          subst (λ (i : ℕ). Least (is_at column x) (used column count) i) q l
      go (inr f) =
          let s = first_none (is_at column x) Some None (used column count) f in
          absurd (let z : ◌≡◌ {A = ℕ} 0 1 = cc in omega arith)

  pub find_nothing : find column count x ≡ None → (k : ℕ) → k < used column count → get_or column k 0 ≡ x → ⊥
  unfolding find
  find_nothing e k h q = go (first_cases (is_at column x) (used column count))
    where
      go : ((j : ℕ) × Least (is_at column x) (used column count) j) ⊎ ((j : ℕ) → j < used column count → T (is_at column x j) → ⊥) → ⊥
      go (inl (j, l)) =
          let s = first_least (is_at column x) Some None (used column count) j l in
          let z : ◌≡◌ {A = ℕ} 0 1 = cc in
          omega arith
      go (inr f) = f k h (T_true (eq-eqb _ _ q))

  -- and the other way
  pub at_find : (k : ℕ) → k < used column count → get_or column k 0 ≡ x → ((j : ℕ) → j < k → get_or column j 0 ≡ x → ⊥)
      → find column count x ≡ Some k
  unfolding find
  at_find k h e f =
      first_least (is_at column x) Some None (used column count) k
      (record { inside = h; passes = T_true (eq-eqb _ _ e); before = λ j l t. f j l (eqb→eq _ _ t) })

  pub nothing_find : ((k : ℕ) → k < used column count → get_or column k 0 ≡ x → ⊥) → find column count x ≡ None
  unfolding find
  nothing_find f = first_none (is_at column x) Some None (used column count) (λ j l t. f j l (eqb→eq _ _ t))

  pub contains_at : T (contains column count x) → (k : ℕ) × (k < used column count) × (get_or column k 0 ≡ x)
  unfolding contains
  contains_at t =
      let r = any_at (is_at column x) (used column count) t in
      (r.0, r.1, eqb→eq _ _ r.2)

  pub at_contains : (k : ℕ) → k < used column count → get_or column k 0 ≡ x → T (contains column count x)
  unfolding contains
  at_contains k h e = any_intro (is_at column x) (used column count) k h (T_true (eq-eqb _ _ e))

  -- what is contained is what is found
  pub contains_find : (k : ℕ) → find column count x ≡ Some k → contains column count x ≡ true
  contains_find k e =
      let l = find_at k e in
      true_T _ (at_contains k l.inside (eqb→eq _ _ l.passes))

  pub contains_nothing : find column count x ≡ None → contains column count x ≡ false
  contains_nothing e = false_not _ (λ t. let r = contains_at t in find_nothing e r.0 r.1 r.2)

pub or_false : (b : Bool) → (b || false) ≡ b
or_false true = refl
or_false false = refl

-- eight places where x does not stand are passed over
pub skip_eight : (column : List ℕ) (x n k : ℕ) → k + 8 ≤ n → any 8 (λ j. is_at column x (k + j)) ≡ false
    → first (is_at column x) Some None (n - k) k ≡ first (is_at column x) Some None (n - (k + 8)) (k + 8)
skip_eight column x n k h e =
    first_skip (is_at column x) Some None 8 n k h
    (λ j l t. never (true_T _ (any_intro (λ i. is_at column x (k + i)) 8 j l t)))
  where
    never : any 8 (λ j. is_at column x (k + j)) ≡ true → ⊥
    never q = let z : ◌≡◌ {A = ℕ} 0 1 = cc in omega arith

-- a search of a part of the column, from a place on
module _ (column : List ℕ) (x from end : ℕ) (h : from ≤ end) (inside : end ≤ length column) where
  abbrev pub part : List ℕ
  part = take (end - from) (drop from column)

  pub length_part : length part ≡ end - from
  length_part = omega (arith, length-take (end - from) (drop from column), length-drop from column)

  at_part : (j : ℕ) → j < end - from → get_or part j 0 ≡ get_or column (from + j) 0
  at_part j l = get_or-take (end - from) (drop from column) j 0 l ∙ get_or-drop from column j 0

  passed : (i : ℕ) → i ≤ end - from → ((j : ℕ) → j < i → get_or part j 0 ≡ x → ⊥) → (j : ℕ) → j < i → T (is_at column x (from + j)) → ⊥
  passed i l before j q t = before j q (at_part j (omega arith) ∙ eqb→eq _ _ t)

  pub part_found : (i : ℕ) → i < end - from → get_or part i 0 ≡ x → ((j : ℕ) → j < i → get_or part j 0 ≡ x → ⊥)
      → first (is_at column x) Some None (end - from) from ≡ Some (from + i)
  part_found i l e before =
      first_skip (is_at column x) Some None i end from (omega arith) (passed i (omega arith) before)
      ∙ first_hit (is_at column x) Some None end (from + i) (omega arith) (eq-eqb _ _ (sym (at_part i l) ∙ e))

  pub part_nothing : ((j : ℕ) → j < end - from → get_or part j 0 ≡ x → ⊥) → first (is_at column x) Some None (end - from) from ≡ None
  part_nothing none =
      first_skip (is_at column x) Some None (end - from) end from (omega arith) (passed (end - from) (omega arith) none)
      ∙ first_end (is_at column x) Some None end (from + (end - from)) (omega arith)

-- a loop over the front
pub at_front : (column : List ℕ) (end k : ℕ) → k < end → get_or (take end column) k 0 ≡ get_or column k 0
at_front column end k h = get_or-take end column k 0 h
