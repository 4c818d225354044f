-- Lists of places. `times` counts a place in a list: it is there where the count is not 0, and once where it is 1.
use Rattle.std.specs.Prelude.{Bool, false, cond, ◌||◌, List, [], ◌∷◌, ◌++◌, ℕ, zero, suc, ◌+◌, eqb, get_or}

unfoldable pub times : ℕ → List ℕ → ℕ
times x [] = 0
times x (y ∷ ys) = cond (eqb y x) 1 0 + times x ys

-- the places that pass, in their order
unfoldable pub keep : (ℕ → Bool) → List ℕ → List ℕ
keep p [] = []
keep p (x ∷ xs) = cond (p x) (x ∷ keep p xs) (keep p xs)

-- some place passes
unfoldable pub some_of : (ℕ → Bool) → List ℕ → Bool
some_of p [] = false
some_of p (x ∷ xs) = p x || some_of p xs

-- a loop over a list that carries v
unfoldable pub fold : {A : Type 0} → (ℕ → A → A) → List ℕ → A → A
fold s [] v = v
fold s (x ∷ xs) v = fold s xs (s x v)

-- the first n places of a column as a list: it grows at the end, as loops do
unfoldable pub front : ℕ → List ℕ → List ℕ
front zero xs = []
front (suc n) xs = front n xs ++ (get_or xs n 0 ∷ [])
