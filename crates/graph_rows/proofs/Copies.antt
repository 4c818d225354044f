-- A column copied place by place, and that rows and words are copies of each other.
use mathlib.Core.List.{List, [], ◌∷◌, map}
use mathlib.Core.Path.{◌≡◌, refl, sym, ap, ◌∙◌}
use Prim.Native.Nat.{ℕ, ◌+◌, ◌≤◌, ◌<◌}
use native.Mathlib.Decide.{ℕ_discrete}
use native.Mathlib.Omega.{arith}
use lib.ListN.{get_or, set, length, length-set, length-map, get_or-map}
use lib.Seq.{get_or-set_same, get_or-set_other, ext_get_or}
use Rattle.sizes.specs.Sizes.{WORDS, BLOCKS}
use Rattle.graph_rows.specs.declared.Row.{Row}
use Rattle.graph_rows.specs.Rows.{bits_of, row_of, words_of, rows_of, Paired}

-- a column ys that has f of xs in the places before k; d is what a place past the end gives
pub record Copied {A B : Type 0} (f : A → B) (d : A) (xs : List A) (ys : List B) (k : ℕ) : Type 0 where
  pub sized : length ys ≡ BLOCKS
  pub says : (j : ℕ) → j < k → get_or ys j (f d) ≡ f (get_or xs j d)

module _ {A B : Type 0} (f : A → B) (d : A) (xs : List A) where
  pub copied_none : (ys : List B) → length ys ≡ BLOCKS → Copied f d xs ys 0
  copied_none ys s = record { sized = s; says = λ j h. absurd (omega arith) }

  pub copied_more : (ys : List B) (k : ℕ) (v : B) → k < BLOCKS → v ≡ f (get_or xs k d) → Copied f d xs ys k → Copied f d xs (set ys k v) (k + 1)
  copied_more ys k v h e c = record { sized = simp length-set c.sized; says = λ j l. go j l (ℕ_discrete j k) }
    where
      go : (j : ℕ) → j < k + 1 → Dec (j ≡ k) → get_or (set ys k v) j (f d) ≡ f (get_or xs j d)
      go j l (yes q) = rw q (get_or-set_same ys k v (f d) (omega (arith, c.sized)) ∙ e)
      go j l (no n) = get_or-set_other ys k j v (f d) n ∙ c.says j (omega arith)

  pub copied_all : (ys : List B) (k : ℕ) → length xs ≡ BLOCKS → BLOCKS ≤ k → Copied f d xs ys k → ys ≡ map f xs
  copied_all ys k s h c =
      ext_get_or (f d) ys (map f xs) (c.sized ∙ sym (length-map xs f ∙ s))
      (λ i l. c.says i (omega (arith, c.sized)) ∙ sym (get_or-map f xs i d))

-- the rows before k have two words each
pub record Twos (rows : List Row) (k : ℕ) : Type 0 where
  pub two : (x : ℕ) → x < k → length (get_or rows x (row_of [])).bits ≡ WORDS

pub twos_none : (rows : List Row) → Twos rows 0
twos_none rows = record { two = λ x h. absurd (omega arith) }

pub twos_more : (rows : List Row) (k : ℕ) → Twos rows k → length (get_or rows k (row_of [])).bits ≡ WORDS → Twos rows (k + 1)
twos_more rows k t e = record { two = λ x h. go x h (ℕ_discrete x k) }
  where
    go : (x : ℕ) → x < k + 1 → Dec (x ≡ k) → length (get_or rows x (row_of [])).bits ≡ WORDS
    go x h (yes q) = rw q e
    go x h (no n) = t.two x (omega arith)

-- there and back, and back and there
pub rows_words : (rows : List Row) → rows_of (words_of rows) ≡ rows
unfolding rows_of words_of
rows_words [] = refl
rows_words (r ∷ rows) = ap (λ (rest : List Row). r ∷ rest) (rows_words rows)

pub words_rows : (words : List (List ℕ)) → words_of (rows_of words) ≡ words
unfolding rows_of words_of
words_rows [] = refl
words_rows (w ∷ words) = ap (λ (rest : List (List ℕ)). w ∷ rest) (words_rows words)

-- place by place
pub words_at : (rows : List Row) (k : ℕ) → get_or (words_of rows) k [] ≡ (get_or rows k (row_of [])).bits
unfolding words_of
words_at rows k = get_or-map bits_of rows k (row_of [])

pub words_size : (rows : List Row) → length (words_of rows) ≡ length rows
unfolding words_of
words_size rows = length-map rows bits_of

pub words_paired : (rows : List Row) (k : ℕ) → BLOCKS ≤ k → Twos rows k → (words : List (List ℕ)) → words ≡ words_of rows → Paired words
words_paired rows k h t words e x l = rw (e, words_at rows x) (t.two x (omega arith))
