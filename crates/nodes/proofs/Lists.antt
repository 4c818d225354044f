-- Lists of places in columns.
use mathlib.Core.Bool.{Bool, true, false, cond}
use mathlib.Core.List.{List, [], ◌∷◌, ◌++◌}
use mathlib.Core.Path.{◌≡◌, refl, sym, ap, ◌∙◌}
use Prim.Native.Nat.{ℕ, zero, suc, ◌+◌, ◌≤◌, ◌<◌}
use native.Mathlib.Numerals.{add-one}
use native.Mathlib.Omega.{arith}
use lib.ListN.{get_or, set, length, take, length-append, replicate}
use lib.Seq.{take-suc, take-length}
use Rattle.sizes.specs.Sizes.{BLOCKS}
use Rattle.loops.specs.Listing.{front, keep}
use Rattle.columns.specs.Lists.{padded}
use Rattle.columns.proofs.Padded.{get_padded, next_padded}
use Rattle.nodes.specs.declared.Places.{Places}
use Rattle.nodes.specs.Nodes.{placed}
use Rattle.loops.proofs.Listings.{keep_append, length_front}

-- the turn of a loop that keeps the places that pass
pub keep_front : (p : ℕ → Bool) (k : ℕ) (xs : List ℕ) → p (get_or xs k 0) ≡ true
    → keep p (front (k + 1) xs) ≡ keep p (front k xs) ++ (get_or xs k 0 ∷ [])
unfolding front
keep_front p k xs e = rw add-one (keep_append p (front k xs) (get_or xs k 0 ∷ []) ∙ (unfold keep in rw e))

pub drop_front : (p : ℕ → Bool) (k : ℕ) (xs : List ℕ) → p (get_or xs k 0) ≡ false → keep p (front (k + 1) xs) ≡ keep p (front k xs)
unfolding front
drop_front p k xs e = rw add-one (keep_append p (front k xs) (get_or xs k 0 ∷ []) ∙ (unfold keep in rw e (no_more (keep p (front k xs)))))
  where
    no_more : (l : List ℕ) → l ++ [] ≡ l
    no_more [] = refl
    no_more (x ∷ l) = ap (λ (m : List ℕ). x ∷ m) (no_more l)

pub length_keep : (p : ℕ → Bool) (l : List ℕ) → length (keep p l) ≤ length l
unfolding keep
length_keep p [] = omega arith
length_keep p (x ∷ l) = go (p x) (length_keep p l)
  where
    go : (b : Bool) → length (keep p l) ≤ length l → length (cond b (x ∷ keep p l) (keep p l)) ≤ suc (length l)
    go true h = omega arith
    go false h = omega arith

pub length_kept : (p : ℕ → Bool) (k : ℕ) (xs : List ℕ) → length (keep p (front k xs)) ≤ k
length_kept p k xs = omega (arith, length_keep p (front k xs), length_front k xs)

-- the list that such a loop has laid down
pub record Laid (p : ℕ → Bool) (xs : List ℕ) (k : ℕ) (places : List ℕ) (n : ℕ) : Type 0 where
  pub count_is : n ≡ length (keep p (front k xs))
  pub places_are : places ≡ padded BLOCKS (keep p (front k xs))

module _ (p : ℕ → Bool) (xs : List ℕ) where
  pub laid_none : Laid p xs 0 (replicate BLOCKS 0) 0
  unfolding front keep padded
  laid_none = record { count_is = refl; places_are = refl }

  pub laid_room : (k : ℕ) (places : List ℕ) (n : ℕ) → Laid p xs k places n → n ≤ k
  laid_room k places n l = omega (arith, l.count_is, length_kept p k xs)

  pub laid_skip : (k : ℕ) (places : List ℕ) (n : ℕ) → p (get_or xs k 0) ≡ false → Laid p xs k places n → Laid p xs (k + 1) places n
  laid_skip k places n e l =
      record {
        count_is = l.count_is ∙ ap length (sym (drop_front p k xs e));
        places_are = l.places_are ∙ ap (padded BLOCKS) (sym (drop_front p k xs e));
      }

  pub laid_next : (k : ℕ) (places : List ℕ) (n : ℕ) → k < BLOCKS → p (get_or xs k 0) ≡ true → Laid p xs k places n
      → Laid p xs (k + 1) (set places n (get_or xs k 0)) (n + 1)
  laid_next k places n h e l =
      record {
        count_is = rw (keep_front p k xs e) (omega (arith, l.count_is, length-append (keep p (front k xs)) (get_or xs k 0 ∷ [])));
        places_are =
            rw (l.places_are, l.count_is)
            (next_padded BLOCKS (keep p (front k xs)) (get_or xs k 0) (omega (arith, length_kept p k xs)) ∙ ap (padded BLOCKS) (sym (keep_front p k xs e)));
      }

-- a column read as a list, and back
pub front_take : (n : ℕ) (l : List ℕ) → n ≤ length l → front n l ≡ take n l
unfolding front
front_take zero l h = refl
front_take (suc n) l h = rw (front_take n l (omega arith)) (sym (take-suc l n 0 (omega arith)))

pub front_all : (l : List ℕ) → front (length l) l ≡ l
front_all l = front_take (length l) l (omega arith) ∙ take-length l

-- where a loop over a list ends
pub front_end : (k : ℕ) (l : List ℕ) → k ≤ length l → length l ≤ k → front k l ≡ l
front_end k l h e = ap (λ (n : ℕ). front n l) (omega arith) ∙ front_all l

front_cong : (n : ℕ) (xs ys : List ℕ) → ((k : ℕ) → get_or xs k 0 ≡ get_or ys k 0) → front n xs ≡ front n ys
unfolding front
front_cong zero xs ys h = refl
front_cong (suc n) xs ys h = rw (front_cong n xs ys h, h n)

pub front_padded : (n : ℕ) (l : List ℕ) → front (length l) (padded n l) ≡ l
front_padded n l = front_cong (length l) (padded n l) l (get_padded n l) ∙ front_all l

-- the end of the loop that keeps the places that pass
pub laid_end : (p : ℕ → Bool) (xs : List ℕ) (m : ℕ) (places : List ℕ) (k : ℕ) → Laid p xs k places m → front k xs ≡ xs
    → ◌≡◌ {A = Places} (record { places = places; count = m }) (placed (keep p xs))
unfolding placed
laid_end p xs m places k l e = rw (l.places_are, l.count_is, e)

-- a list comes back from the column and the count that hold it
pub placed_front : (m : Places) (l : List ℕ) → m ≡ placed l → front m.count m.places ≡ l
unfolding placed
placed_front m l e = ap (λ (q : Places). front q.count q.places) e ∙ front_padded BLOCKS l

pub placed_count : (m : Places) (l : List ℕ) → m ≡ placed l → m.count ≡ length l
unfolding placed
placed_count m l e = ap (λ (q : Places). q.count) e
