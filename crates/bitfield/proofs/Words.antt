-- One word: which bits `or`, `and`, a power of two and a difference have, and that a word is its bits.
use mathlib.Core.Bool.{Bool, true, false, not, ◌&&◌, ◌||◌}
use mathlib.Core.Path.{◌≡◌, refl, sym, ap, ◌∙◌}
use Prim.Native.Nat.{ℕ, zero, suc, ◌+◌, ◌-◌, ◌*◌, ◌/◌, ◌%◌, ◌^◌, ◌≤◌, ◌<◌, min, max}
use native.Mathlib.Nat.{one-mul, div-eq_of_lt, mod-lt}
use native.Mathlib.Decide.{ℕ_discrete, dec_lt}
use native.Mathlib.Omega.{arith}
use borrow.Author.Tests.{eq-eqb, ne_eqb}
use lib.Arith.{digits_mod}
use lib.Bits.{bit_and, bit_or, and_shr, and_step, or_shr, or_step, or_shifted_r, or_block, or_zero_r}
use lib.Dec.{eqb, eqb→eq}
use lib.Pow.{pow_pos, pow-lt, pow-add, shl-shr, shl_exact, shr-shr, high, split}
use Rattle.loops.proofs.Tests.{T_true, true_false, and_true, or_false}
use Rattle.bitfield.specs.Bits.{in_word}

-- what is below a power of two has none of it
pub below : (k w : ℕ) → w < 2 ^ k → w / 2 ^ k ≡ 0
below k w h = div-eq_of_lt h

pub shl_one : (k : ℕ) → k < 64 → (1 * 2 ^ k) % 2 ^ 64 ≡ 2 ^ k
shl_one k h = shl_exact {a = 1} 1 k 64 (omega arith) (omega arith) ∙ one-mul (2 ^ k)

-- an operation on digits, which are below 2, as one on tests
digit_op : (f : ℕ → ℕ → ℕ) (g : Bool → Bool → Bool)
    → eqb (f 0 0) 1 ≡ g false false → eqb (f 0 1) 1 ≡ g false true → eqb (f 1 0) 1 ≡ g true false → eqb (f 1 1) 1 ≡ g true true
    → (x y : ℕ) → x < 2 → y < 2 → eqb (f x y) 1 ≡ g (eqb x 1) (eqb y 1)
digit_op f g p q r s zero zero h k = p
digit_op f g p q r s zero (suc zero) h k = q
digit_op f g p q r s zero (suc (suc y)) h k = absurd (omega arith)
digit_op f g p q r s (suc zero) zero h k = r
digit_op f g p q r s (suc zero) (suc zero) h k = s
digit_op f g p q r s (suc zero) (suc (suc y)) h k = absurd (omega arith)
digit_op f g p q r s (suc (suc x)) y h k = absurd (omega arith)

pub in_word_or : (a c b : ℕ) → in_word (bit_or a c) b ≡ (in_word a b || in_word c b)
unfolding in_word
in_word_or a c b =
    let k = 63 - b in
    let e : bit_or a c / 2 ^ k % 2 ≡ max (a / 2 ^ k % 2) (c / 2 ^ k % 2)
    = ap (λ (n : ℕ). n % 2) (or_shr a c k ∙ or_step (a / 2 ^ k) (c / 2 ^ k)) ∙ digits_mod (bit_or (a / 2 ^ k / 2) (c / 2 ^ k / 2)) (omega arith) in
    ap (λ (n : ℕ). eqb n 1) e ∙ digit_op max ◌||◌ refl refl refl refl (a / 2 ^ k % 2) (c / 2 ^ k % 2) (omega arith) (omega arith)

pub in_word_and : (a c b : ℕ) → in_word (bit_and a c) b ≡ (in_word a b && in_word c b)
unfolding in_word
in_word_and a c b =
    let k = 63 - b in
    let e : bit_and a c / 2 ^ k % 2 ≡ min (a / 2 ^ k % 2) (c / 2 ^ k % 2)
    = ap (λ (n : ℕ). n % 2) (and_shr a c k ∙ and_step (a / 2 ^ k) (c / 2 ^ k)) ∙ digits_mod (bit_and (a / 2 ^ k / 2) (c / 2 ^ k / 2)) (omega arith) in
    ap (λ (n : ℕ). eqb n 1) e ∙ digit_op min ◌&&◌ refl refl refl refl (a / 2 ^ k % 2) (c / 2 ^ k % 2) (omega arith) (omega arith)

-- a word below 2^(63 - b) doesn't reach bit b
pub in_word_low : (w b : ℕ) → w < 2 ^ (63 - b) → in_word w b ≡ false
unfolding in_word
in_word_low w b h =
    let e : w / 2 ^ (63 - b) ≡ 0 = below (63 - b) w h in
    rw e

pub in_word_zero : (b : ℕ) → in_word 0 b ≡ false
in_word_zero b = in_word_low 0 b (pow_pos (63 - b))

-- the one bit of a power of two
pub in_word_one : (p b : ℕ) → p < 64 → b < 64 → in_word (2 ^ (63 - p)) b ≡ eqb b p
unfolding in_word
in_word_one p b hp hb = go (ℕ_discrete b p)
  where
    go : Dec (b ≡ p) → eqb (2 ^ (63 - p) / 2 ^ (63 - b) % 2) 1 ≡ eqb b p
    go (yes e) =
        let one : 2 ^ (63 - p) / 2 ^ (63 - p) ≡ 1 = ap (λ (n : ℕ). n / 2 ^ (63 - p)) (sym (one-mul (2 ^ (63 - p)))) ∙ shl-shr 1 (63 - p) in
        rw (e, one) (sym (eq-eqb p p refl))
    go (no n) = rw (ne_eqb b p n) (side (dec_lt b p))
      where
        side : Dec (b < p) → eqb (2 ^ (63 - p) / 2 ^ (63 - b) % 2) 1 ≡ false
        side (yes l) =
            let z : 2 ^ (63 - p) / 2 ^ (63 - b) ≡ 0 = below (63 - b) (2 ^ (63 - p)) (pow-lt {i = 63 - p} {j = 63 - b} (omega arith)) in
            rw z
        side (no l) =
            let d = b - p - 1 in
            let e : 63 - p ≡ suc d + (63 - b) = omega arith in
            let z : 2 ^ (63 - p) / 2 ^ (63 - b) ≡ 2 ^ suc d
            = ap (λ (n : ℕ). 2 ^ n / 2 ^ (63 - b)) e ∙ ap (λ (n : ℕ). n / 2 ^ (63 - b)) (pow-add 2 (suc d) (63 - b)) ∙ shl-shr (2 ^ suc d) (63 - b) in
            let even : 2 ^ suc d % 2 ≡ 0 = omega arith in
            rw (z, even)

-- a word that has bit p is the rest and that bit
pub record Rest (w p : ℕ) : Type 0 where
  pub least : 2 ^ (63 - p) ≤ w
  pub out : in_word (w - 2 ^ (63 - p)) p ≡ false
  pub whole : bit_or (w - 2 ^ (63 - p)) (2 ^ (63 - p)) ≡ w

pub rest : (w p : ℕ) → in_word w p ≡ true → Rest w p
unfolding in_word
rest w p t =
    let k = 63 - p in
    let q = w / 2 ^ k in
    let l = w % 2 ^ k in
    let h = q / 2 in
    let small : l < 2 ^ k = mod-lt w (pow_pos k) in
    let odd : q % 2 ≡ 1 = eqb→eq (q % 2) 1 (T_true t) in
    let parts : q * 2 ^ k + l ≡ w = split w k in
    let halves : q ≡ h * 2 + 1 = omega arith in
    let sum : (h * 2 + 1) * 2 ^ k + l ≡ w = ap (λ (n : ℕ). n * 2 ^ k + l) (sym halves) ∙ parts in
    let r : w - 2 ^ k ≡ h * 2 * 2 ^ k + l = omega arith in
    let quotient : (w - 2 ^ k) / 2 ^ k ≡ h * 2 = ap (λ (n : ℕ). n / 2 ^ k) r ∙ high (h * 2) k small in
    let even : (w - 2 ^ k) / 2 ^ k % 2 ≡ 0 = ap (λ (n : ℕ). n % 2) quotient ∙ omega arith in
    let double : 2 ^ suc k ≡ 2 * 2 ^ k = omega arith in
    let left : w - 2 ^ k ≡ h * 2 ^ suc k + l = rw double (omega arith) in
    let right : 2 ^ k ≡ 0 * 2 ^ suc k + 2 ^ k = omega arith in
    let joins : bit_or (h * 2 ^ suc k + l) (0 * 2 ^ suc k + 2 ^ k) ≡ bit_or h 0 * 2 ^ suc k + bit_or l (2 ^ k)
    = or_block (suc k) h 0 l (2 ^ k) (omega arith) (pow-lt {i = k} {j = suc k} (omega arith)) in
    let top : bit_or l (2 ^ k) ≡ 2 ^ k + l = ap (bit_or l) (sym (one-mul (2 ^ k))) ∙ or_shifted_r 1 k l small ∙ ap (λ (n : ℕ). n + l) (one-mul (2 ^ k)) in
    let back : bit_or (w - 2 ^ k) (2 ^ k) ≡ bit_or h 0 * 2 ^ suc k + bit_or l (2 ^ k) = ap2 left right joins in
    let full : bit_or h 0 * 2 ^ suc k + bit_or l (2 ^ k) ≡ h * 2 ^ suc k + (2 ^ k + l) = rw (or_zero_r h, top) in
    record { least = omega arith; out = rw even; whole = back ∙ full ∙ rw double (omega arith) }
  where
    ap2 : {a b c d e : ℕ} → a ≡ b → c ≡ d → bit_or b d ≡ e → bit_or a c ≡ e
    ap2 p q r = rw (p, q) r

-- the rest has the word's other bits
pub in_word_cut : (w p b : ℕ) → p < 64 → b < 64 → in_word w p ≡ true → in_word (w - 2 ^ (63 - p)) b ≡ (in_word w b && not (eqb b p))
in_word_cut w p b hp hb t =
    let r = w - 2 ^ (63 - p) in
    let e : in_word w b ≡ (in_word r b || eqb b p)
    = ap (λ (x : ℕ). in_word x b) (sym (rest w p t).whole) ∙ in_word_or r (2 ^ (63 - p)) b ∙ ap (λ (x : Bool). in_word r b || x) (in_word_one p b hp hb) in
    rw e (go (ℕ_discrete b p))
  where
    go : Dec (b ≡ p) → in_word (w - 2 ^ (63 - p)) b ≡ ((in_word (w - 2 ^ (63 - p)) b || eqb b p) && not (eqb b p))
    go (yes i) = rw (eq-eqb b p i, i, (rest w p t).out)
    go (no i) = rw (ne_eqb b p i) (sym (and_true _ ∙ or_false (in_word (w - 2 ^ (63 - p)) b)))

-- numbers of n binary digits are equal where their digits are
pub digits_ext : (n a b : ℕ) → a < 2 ^ n → b < 2 ^ n → ((k : ℕ) → k < n → a / 2 ^ k % 2 ≡ b / 2 ^ k % 2) → a ≡ b
digits_ext zero a b ha hb same = omega arith
digits_ext (suc n) a b ha hb same =
    let tops : a / 2 ≡ b / 2 = digits_ext n (a / 2) (b / 2) (half a ha) (half b hb) (λ k h. step a k ∙ same (suc k) (omega arith) ∙ sym (step b k)) in
    omega (arith, same 0 (omega arith))
  where
    half : (x : ℕ) → x < 2 ^ suc n → x / 2 < 2 ^ n
    half x h = omega arith

    step : (x k : ℕ) → x / 2 / 2 ^ k % 2 ≡ x / 2 ^ suc k % 2
    step x k =
        let e : 1 + k ≡ suc k = omega arith in
        ap (λ (m : ℕ). m % 2) (shr-shr x 1 k ∙ ap (λ (m : ℕ). x / 2 ^ m) e)

-- a word is its bits
pub word_ext : (a b : ℕ) → a < 2 ^ 64 → b < 2 ^ 64 → ((p : ℕ) → p < 64 → in_word a p ≡ in_word b p) → a ≡ b
unfolding in_word
word_ext a b ha hb same = digits_ext 64 a b ha hb (λ k h. digit k h)
  where
    digit_eq : (x y : ℕ) → x < 2 → y < 2 → eqb x 1 ≡ eqb y 1 → x ≡ y
    digit_eq x y hx hy e = go (ℕ_discrete x 1) (ℕ_discrete y 1)
      where
        go : Dec (x ≡ 1) → Dec (y ≡ 1) → x ≡ y
        go (yes i) (yes j) = omega arith
        go (no i) (no j) = omega arith
        go (yes i) (no j) = absurd (true_false (eq-eqb x 1 i) (e ∙ ne_eqb y 1 j))
        go (no i) (yes j) = absurd (true_false (eq-eqb y 1 j) (sym e ∙ ne_eqb x 1 i))

    digit : (k : ℕ) → k < 64 → a / 2 ^ k % 2 ≡ b / 2 ^ k % 2
    digit k h =
        let i : 63 - (63 - k) ≡ k = omega arith in
        let e = same (63 - k) (omega arith) in
        digit_eq (a / 2 ^ k % 2) (b / 2 ^ k % 2) (omega arith) (omega arith) (rw i at e)
