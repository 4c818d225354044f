-- A list in a column: reading it, changing a place, and making room for one more number.
use mathlib.Core.List.{List, [], ◌∷◌, ◌++◌, append_assoc}
use mathlib.Core.Path.{◌≡◌, refl, sym, ap, ◌∙◌}
use Prim.Native.Nat.{ℕ, zero, suc, ◌+◌, ◌-◌, ◌≤◌, ◌<◌}
use native.Mathlib.Numerals.{add-one}
use native.Mathlib.Omega.{arith}
use lib.ListN.{length, get_or, set, replicate, length-append, length-replicate, length-set}
use lib.Seq.{set-append_left, set_at}
use Rattle.columns.specs.Lists.{padded, shift}

-- x at place k, what stands there and after it one place further
abbrev pub inserted : {A : Type 0} → ℕ → A → List A → List A
inserted zero x ys = x ∷ ys
inserted (suc k) x [] = x ∷ []
inserted (suc k) x (y ∷ ys) = y ∷ inserted k x ys

pub length_inserted : {A : Type 0} (k : ℕ) (x : A) (xs : List A) → length (inserted k x xs) ≡ suc (length xs)
length_inserted zero x xs = refl
length_inserted (suc k) x [] = refl
length_inserted (suc k) x (y ∷ ys) = ap suc (length_inserted k x ys)

pub length_padded : (n : ℕ) (xs : List ℕ) → length xs ≤ n → length (padded n xs) ≡ n
unfolding padded
length_padded n xs h = simp (length-append, length-replicate) (omega arith)

-- a place past the list reads 0 in both
pub get_padded : (n : ℕ) (xs : List ℕ) (k : ℕ) → get_or (padded n xs) k 0 ≡ get_or xs k 0
unfolding padded
get_padded n xs k = go xs k (n - length xs)
  where
    zeros : (m k : ℕ) → ◌≡◌ {A = ℕ} (get_or (replicate m 0) k 0) 0
    zeros zero k = refl
    zeros (suc m) zero = refl
    zeros (suc m) (suc k) = zeros m k

    go : (xs : List ℕ) (k m : ℕ) → get_or (xs ++ replicate m 0) k 0 ≡ get_or xs k 0
    go [] k m = zeros m k
    go (x ∷ xs) zero m = refl
    go (x ∷ xs) (suc k) m = go xs k m

pub set_padded : (n : ℕ) (xs : List ℕ) (k x : ℕ) → k < length xs → set (padded n xs) k x ≡ padded n (set xs k x)
unfolding padded
set_padded n xs k x h = rw (set-append_left xs (replicate (n - length xs) 0) k x h, length-set xs k x)

-- one more number at the end
pub next_padded : (n : ℕ) (xs : List ℕ) (x : ℕ) → length xs < n → set (padded n xs) (length xs) x ≡ padded n (xs ++ (x ∷ []))
unfolding padded
next_padded n xs x h =
    let d : n - length xs ≡ suc (n - suc (length xs)) = omega arith in
    let e : n - length (xs ++ (x ∷ [])) ≡ n - suc (length xs) = rw (length-append xs (x ∷ [])) (omega arith) in
    rw (d, e) (set_at xs 0 (replicate (n - suc (length xs)) 0) x (length xs) refl ∙ sym (append_assoc xs (x ∷ []) _))

-- one more number among them
pub shift_cons : (f k x y : ℕ) (ys : List ℕ) → shift f (suc k) x (y ∷ ys) ≡ y ∷ shift f k x ys
unfolding shift
shift_cons zero k x y ys = refl
shift_cons (suc f) k x y ys = shift_cons f (suc k) (get_or ys k 0) y (set ys k x)

shift_in : (xs zs : List ℕ) (k x : ℕ) → k ≤ length xs → shift (suc (length xs - k)) k x (xs ++ (0 ∷ zs)) ≡ inserted k x xs ++ zs
unfolding shift
shift_in [] zs zero x h = refl
shift_in [] zs (suc k) x h = absurd (omega arith)
shift_in (y ∷ ys) zs zero x h =
    let d : suc (length ys) - 0 ≡ suc (length ys - 0) = omega arith in
    rw d (shift_cons (suc (length ys - 0)) 0 y x (ys ++ (0 ∷ zs)) ∙ ap (λ (l : List ℕ). x ∷ l) (shift_in ys zs 0 y (omega arith)))
shift_in (y ∷ ys) zs (suc k) x h =
    let d : suc (length ys) - suc k ≡ length ys - k = omega arith in
    rw d
    (shift_cons (suc (length ys - k)) k x y (ys ++ (0 ∷ zs)) ∙ ap (λ (l : List ℕ). y ∷ l) (shift_in ys zs k x (omega arith)))

pub shift_padded : (n : ℕ) (xs : List ℕ) (k x : ℕ) → k ≤ length xs → length xs < n
    → shift (length xs + 1 - k) k x (padded n xs) ≡ padded n (inserted k x xs)
unfolding padded
shift_padded n xs k x h l =
    let d : n - length xs ≡ suc (n - suc (length xs)) = omega arith in
    let e : length xs + 1 - k ≡ suc (length xs - k) = omega arith in
    rw (e, d, length_inserted k x xs) (shift_in xs (replicate (n - suc (length xs)) 0) k x h)

-- the turns of the loop that makes room
pub shift_next : (n k x : ℕ) (xs : List ℕ) → k < n → shift (n - k) k x xs ≡ shift (n - (k + 1)) (k + 1) (get_or xs k 0) (set xs k x)
unfolding shift
shift_next n k x xs h =
    let d : n - k ≡ suc (n - (k + 1)) = omega arith in
    rw (d, add-one)

pub shift_end : (n k x : ℕ) (xs : List ℕ) → n ≤ k → shift (n - k) k x xs ≡ xs
unfolding shift
shift_end n k x xs h =
    let d : n - k ≡ 0 = omega arith in
    rw d
