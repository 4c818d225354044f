-- The decimal digits of the definition tell the number, and are those of the kit.
use mathlib.Core.Bool.{Bool, true, false, cond}
use mathlib.Core.List.{List, [], ◌∷◌, ◌++◌}
use mathlib.Core.Path.{◌≡◌, refl, ap, ◌∙◌}
use Prim.Native.Nat.{ℕ, zero, suc, ◌+◌, ◌-◌, ◌*◌, ◌/◌, ◌%◌, ◌^◌, ◌≤◌, ◌<◌}
use native.Mathlib.Omega.{arith}
use lib.Dec.{ltb}
use native.Mathlib.Nat.{one-le-pow, pow-le-pow_right}
use native.Mathlib.Decide.{dec_lt}
use lib.ListN.{length, take, length-append}
use borrow.Author.Tests.{lt-ltb, le-ltb}
use Rattle.io.specs.Digits.{IsDigitCount}
use Rattle.io.specs.Digits.{last_digits as kit}
use Rattle.lines.specs.Lines.{digits, decimal, told_after}
use Rattle.lines.specs.Put.{Put}

pub digits_length : (k n : ℕ) → length (digits k n) ≤ k
unfolding digits
digits_length zero n = omega arith
digits_length (suc k) n = go (ltb n 10) (digits_length k (n / 10))
  where
    go : (b : Bool) → length (digits k (n / 10)) ≤ k
        → length (cond b ((48 + n) ∷ []) (digits k (n / 10) ++ ((48 + n % 10) ∷ []))) ≤ suc k
    go true h = omega arith
    go false h = omega (arith, length-append (digits k (n / 10)) ((48 + n % 10) ∷ []))

pub decimal_length : (n : ℕ) → length (decimal n) ≤ 20
unfolding decimal
decimal_length n = digits_length 20 n

told_append : (n : ℕ) (xs ys : List ℕ) → told_after n (xs ++ ys) ≡ told_after (told_after n xs) ys
unfolding told_after
told_append n [] ys = refl
told_append n (x ∷ xs) ys = told_append (10 * n + (x - 48)) xs ys

-- as many digits as a number needs give it back
pub digits_back : (k n : ℕ) → n < 10 ^ k → told_after 0 (digits k n) ≡ n
unfolding digits told_after
digits_back zero n h = omega arith
digits_back (suc k) n h = go (ltb n 10) (digits_back k (n / 10) (omega arith))
  where
    go : (b : Bool) → told_after 0 (digits k (n / 10)) ≡ n / 10
        → told_after 0 (cond b ((48 + n) ∷ []) (digits k (n / 10) ++ ((48 + n % 10) ∷ []))) ≡ n
    go true e = omega arith
    go false e = told_append 0 (digits k (n / 10)) ((48 + n % 10) ∷ []) ∙ rw e (omega arith)

pub decimal_back : (n : ℕ) → n < 2 ^ 64 → told_after 0 (decimal n) ≡ n
unfolding decimal
decimal_back n h = digits_back 20 n (omega arith)

-- as many digits as n has, and no more
pub digits_are : (k f n : ℕ) → k ≤ f → IsDigitCount 10 1 n k → kit 10 k n ≡ digits f n
unfolding digits
digits_are zero f n h w = absurd (omega (arith, w.0))
digits_are (suc k) zero n h w = absurd (omega arith)
digits_are (suc zero) (suc f) n h w =
    let small : n < 10 = omega (arith, w.1) in
    let rest : n % 10 ≡ n = omega arith in
    rw (rest, lt-ltb n 10 small)
digits_are (suc (suc k)) (suc f) n h w =
    let one_less : suc (suc k) - 1 ≡ suc k = omega arith in
    let large : 10 ^ suc k ≤ n = rw one_less at (w.2 (omega arith)) in
    let more : 10 ≤ n = omega (arith, one-le-pow k 10 (omega arith)) in
    let last : n % 10 < 10 = omega arith in
    rw (le-ltb n 10 more, lt-ltb (n % 10) 10 last)
    (ap (λ (l : List ℕ). l ++ ((48 + n % 10) ∷ []))
    (digits_are (suc k) f (n / 10) (omega arith) (omega arith, omega (arith, w.1), λ _. rw same (omega arith))))
  where
    same : suc k - 1 ≡ k
    same = omega arith

pub decimal_is : (k n : ℕ) → k ≤ 20 → IsDigitCount 10 1 n k → kit 10 k n ≡ decimal n
unfolding decimal
decimal_is k n h w = digits_are k 20 n h w

-- a u64 has at most 20
pub few : (n k : ℕ) → IsDigitCount 10 1 n k → n < 2 ^ 64 → k ≤ 20
few n k w h = go (dec_lt 20 k)
  where
    go : Dec (20 < k) → k ≤ 20
    go (yes more) =
        let large : 10 ^ 20 ≤ 10 ^ (k - 1) = pow-le-pow_right {n = 10} (omega arith) {i = 20} {j = k - 1} (omega arith) in
        absurd (omega (arith, w.2 (omega arith)))
    go (no most) = omega arith

pub put_decimal : (n k : ℕ) (ds : List ℕ) {old new : List ℕ} {at next : ℕ} → IsDigitCount 10 1 n k → n < 2 ^ 64 → take k ds ≡ kit 10 k n
    → Put old at (take k ds) new next → Put old at (decimal n) new next × next ≤ at + 20
put_decimal n k ds {old} {new} {at} {next} w h e p =
    let s : take k ds ≡ decimal n = e ∙ decimal_is k n (few n k w h) w in
    let q : Put old at (decimal n) new next = rw s at p in
    (q, omega (arith, q.next_is, decimal_length n))
