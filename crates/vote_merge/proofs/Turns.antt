-- The turns of loops over the places of a column: what is left to run.
use mathlib.Core.Bool.{Bool, true, false, not}
use mathlib.Core.List.{List, [], ◌∷◌, ◌++◌}
use mathlib.Core.Path.{◌≡◌, refl, sym, ap, subst, ◌∙◌}
use mathlib.Core.Logic.{◌≢◌}
use Prim.Native.Nat.{ℕ, zero, suc, ◌+◌, ◌-◌, ◌≤◌, ◌<◌}
use native.Mathlib.Nat.{zero-add, add-zero, sub-zero}
use native.Mathlib.Numerals.{add-one}
use native.Mathlib.Omega.{arith}
use lib.ListN.{get_or, length}
use Rattle.loops.specs.Listing.{times, front}
use Rattle.loops.proofs.Tests.{by_test}
use Rattle.loops.proofs.Listings.{times_here, times_more}
use Rattle.graph.specs.Ghost.{first_in}
use Rattle.nodes.proofs.Lists.{front_all}

pub not_swap : (a b : Bool) → b ≡ not a → a ≡ not b
not_swap true b e = ap not (sym e)
not_swap false b e = ap not (sym e)

-- f places of a column from place k on
unfoldable pub rest : ℕ → ℕ → List ℕ → List ℕ
rest zero k xs = []
rest (suc f) k xs = get_or xs k 0 ∷ rest f (suc k) xs

rest_more : (n k : ℕ) (xs : List ℕ) → rest n k xs ++ (get_or xs (k + n) 0 ∷ []) ≡ rest (suc n) k xs
unfolding rest
rest_more zero k xs = rw (add-zero k)
rest_more (suc n) k xs =
    let e : k + suc n ≡ suc k + n = omega arith in
    rw e (ap (λ (l : List ℕ). get_or xs k 0 ∷ l) (rest_more n (suc k) xs))

front_rest : (n : ℕ) (xs : List ℕ) → front n xs ≡ rest n 0 xs
unfolding front
front_rest zero xs = unfold rest in refl
front_rest (suc n) xs =
    rw (front_rest n xs) (subst (λ (k : ℕ). rest n 0 xs ++ (get_or xs k 0 ∷ []) ≡ rest (suc n) 0 xs) (zero-add n) (rest_more n 0 xs))

pub whole_rest : (xs : List ℕ) → xs ≡ rest (length xs - 0) 0 xs
whole_rest xs = rw sub-zero (sym (front_all xs) ∙ front_rest (length xs) xs)

pub rest_next : (n k : ℕ) (xs : List ℕ) → k < n → rest (n - k) k xs ≡ get_or xs k 0 ∷ rest (n - (k + 1)) (k + 1) xs
unfolding rest
rest_next n k xs h =
    let d : n - k ≡ suc (n - (k + 1)) = omega arith in
    rw (d, add-one)

pub rest_end : (n k : ℕ) (xs : List ℕ) → n ≤ k → rest (n - k) k xs ≡ []
unfolding rest
rest_end n k xs h =
    let d : n - k ≡ 0 = omega arith in
    rw d

-- the first that passes
module _ (p : ℕ → Bool) where
  pub first_hit : (n k : ℕ) (xs : List ℕ) → k < n → p (get_or xs k 0) ≡ true → first_in p (rest (n - k) k xs) ≡ get_or xs k 0
  unfolding first_in
  first_hit n k xs h e = rw (rest_next n k xs h, e)

  pub first_next : (n k : ℕ) (xs : List ℕ) → k < n → p (get_or xs k 0) ≡ false → first_in p (rest (n - k) k xs) ≡ first_in p (rest (n - (k + 1)) (k + 1) xs)
  unfolding first_in
  first_next n k xs h e = rw (rest_next n k xs h, e)

  pub first_end : (n k : ℕ) (xs : List ℕ) → n ≤ k → first_in p (rest (n - k) k xs) ≡ 0
  unfolding first_in
  first_end n k xs h = rw (rest_end n k xs h)

  first_times : (l : List ℕ) → first_in p l ≢ 0 → 0 < times (first_in p l) l
  unfolding first_in
  first_times [] = λ d. absurd (d refl)
  first_times (x ∷ l) =
      by_test (λ (y : ℕ). y ≢ 0 → 0 < times y (x ∷ l)) (p x) x (first_in p l) (λ t d. omega (arith, times_here x l))
      (λ t d. times_more (first_in p l) x l (first_times l d))

  pub first_listed : (l : List ℕ) (c : ℕ) → c ≡ first_in p l → c ≢ 0 → 0 < times c l
  first_listed l c e d = rw e (first_times l (λ q. d (e ∙ q)))
