-- Sets of bits over any number of words: what `put`, `joined`, `every` and no bit at all have, and that a set is its bits.
use mathlib.Core.Bool.{Bool, true, false, ◌&&◌, ◌||◌, beq}
use mathlib.Core.List.{List}
use mathlib.Core.Path.{◌≡◌, refl, sym, ap, ◌∙◌}
use Prim.Native.Nat.{ℕ, zero, suc, ◌+◌, ◌-◌, ◌*◌, ◌/◌, ◌%◌, ◌^◌, ◌≤◌, ◌<◌}
use native.Mathlib.Decide.{ℕ_discrete, dec_lt}
use native.Mathlib.Omega.{arith}
use borrow.Author.Tests.{eq-eqb, ne_eqb}
use lib.Bits.{bit_and, bit_or, or_lt, and_le_l}
use lib.Dec.{T, eqb, eqb→eq}
use lib.ListN.{length, get_or, set, replicate, length-set, get_or-eq_default}
use lib.Pow.{pow-lt}
use lib.Seq.{get_or-set_same, get_or-set_other, set_out, ext_get_or}
use Rattle.loops.specs.All.{all}
use Rattle.loops.specs.Sum.{sum}
use Rattle.loops.proofs.Tests.{T_true, true_T, or_false, same_test}
use Rattle.loops.proofs.Alls.{all_at, all_intro}
use Rattle.bitfield.specs.Bits.{in_word, has, put, words, joined, blank, mask, every}
use Rattle.bitfield.proofs.Words.{in_word_or, in_word_and, in_word_zero, in_word_one, word_ext}

-- each word is below 2^64, as a u64 is
abbrev pub Fits : List ℕ → Type 0
Fits ws = (i : ℕ) → get_or ws i 0 < 2 ^ 64

-- bit p of word i
pub has_at : (ws : List ℕ) (i p : ℕ) → p < 64 → has ws (64 * i + p) ≡ in_word (get_or ws i 0) p
unfolding has
has_at ws i p h =
    let q : (64 * i + p) / 64 ≡ i = omega arith in
    let r : (64 * i + p) % 64 ≡ p = omega arith in
    rw (q, r)

pub has_past : (ws : List ℕ) (b : ℕ) → 64 * length ws ≤ b → has ws b ≡ false
unfolding has
has_past ws b h = rw (get_or-eq_default ws 0 {n = b / 64} (omega arith)) (in_word_zero (b % 64))

pub length_words : (n : ℕ) (f : ℕ → ℕ) → length (words n f) ≡ n
unfolding words
length_words zero f = refl
length_words (suc n) f = ap suc (length_words n (λ i. f (suc i)))

-- a rule for the words that gives 0 past the last is the rule for all places
pub get_d_words : (n : ℕ) (f : ℕ → ℕ) → ((i : ℕ) → n ≤ i → f i ≡ 0) → (i : ℕ) → get_or (words n f) i 0 ≡ f i
unfolding words
get_d_words zero f past i = sym (past i (omega arith))
get_d_words (suc n) f past zero = refl
get_d_words (suc n) f past (suc i) = get_d_words n (λ j. f (suc j)) (λ j h. past (suc j) (omega arith)) i

pub length_put : (ws : List ℕ) (b : ℕ) → length (put ws b) ≡ length ws
unfolding put
length_put ws b = simp length-set

pub length_joined : (a b : List ℕ) → length (joined a b) ≡ length a
unfolding joined
length_joined a b = length_words (length a) _

pub length_every : (d : ℕ) (ws : List ℕ) → length (every d ws) ≡ length ws
unfolding every
length_every d ws = length_words (length ws) _

pub get_or_joined : (a b : List ℕ) → length a ≡ length b → (i : ℕ) → get_or (joined a b) i 0 ≡ bit_or (get_or a i 0) (get_or b i 0)
unfolding joined
get_or_joined a b e i = get_d_words (length a) _ (λ j h. rw (get_or-eq_default a 0 {n = j} h, get_or-eq_default b 0 {n = j} (omega arith))) i

pub get_or_every : (d : ℕ) (ws : List ℕ) (i : ℕ) → get_or (every d ws) i 0 ≡ bit_and (get_or ws i 0) (mask d)
unfolding every
get_or_every d ws i = get_d_words (length ws) _ (λ j h. rw (get_or-eq_default ws 0 {n = j} h)) i

-- two places that are equal together
pub same_place : (a b c d : ℕ) → (a ≡ b → c ≡ d) → (c ≡ d → a ≡ b) → eqb a b ≡ eqb c d
same_place a b c d f g = same_test (eqb a b) (eqb c d) (λ t. T_true (eq-eqb c d (f (eqb→eq a b t)))) (λ t. T_true (eq-eqb a b (g (eqb→eq c d t))))

pub has_put : (ws : List ℕ) (b c : ℕ) → b < 64 * length ws → has (put ws b) c ≡ (has ws c || eqb c b)
unfolding has put
has_put ws b c h = go (ℕ_discrete (c / 64) (b / 64))
  where
    w : ℕ
    w = bit_or (get_or ws (b / 64) 0) (2 ^ (63 - b % 64))

    go : Dec (c / 64 ≡ b / 64) → in_word (get_or (set ws (b / 64) w) (c / 64) 0) (c % 64) ≡ (in_word (get_or ws (c / 64) 0) (c % 64) || eqb c b)
    go (yes e) =
        let at : get_or (set ws (b / 64) w) (b / 64) 0 ≡ w = get_or-set_same ws (b / 64) w 0 (omega arith) in
        let one : in_word (2 ^ (63 - b % 64)) (c % 64) ≡ eqb c b
        = in_word_one (b % 64) (c % 64) (omega arith) (omega arith) ∙ same_place (c % 64) (b % 64) c b (λ r. omega arith) (λ r. omega arith) in
        rw (e, at, in_word_or (get_or ws (b / 64) 0) (2 ^ (63 - b % 64)) (c % 64), one)
    go (no n) = rw (get_or-set_other ws (b / 64) (c / 64) w 0 n, ne_eqb c b (λ e. n (ap (λ (x : ℕ). x / 64) e))) (sym (or_false (in_word (get_or ws (c / 64) 0) (c % 64))))

pub put_past : (ws : List ℕ) (b : ℕ) → 64 * length ws ≤ b → put ws b ≡ ws
unfolding put
put_past ws b h = set_out ws (b / 64) _ (omega arith)

pub has_joined : (a b : List ℕ) → length a ≡ length b → (c : ℕ) → has (joined a b) c ≡ (has a c || has b c)
unfolding has
has_joined a b e c = rw (get_or_joined a b e (c / 64)) (in_word_or (get_or a (c / 64) 0) (get_or b (c / 64) 0) (c % 64))

beq_eq : (a b : Bool) → T (beq a b) → a ≡ b
beq_eq true true t = refl
beq_eq true false t = absurd t
beq_eq false true t = absurd t
beq_eq false false t = refl

-- a mask has the bits of its parity: asked of each of the 64
pub in_word_mask : (d b : ℕ) → d < 2 → b < 64 → in_word (mask d) b ≡ eqb (b % 2) d
unfolding all mask sum in_word
in_word_mask zero b hd hb = beq_eq _ _ (all_at (λ c. beq (in_word (mask 0) c) (eqb (c % 2) 0)) 64 tt b hb)
in_word_mask (suc zero) b hd hb = beq_eq _ _ (all_at (λ c. beq (in_word (mask 1) c) (eqb (c % 2) 1)) 64 tt b hb)
in_word_mask (suc (suc d)) b hd hb = absurd (omega arith)

pub has_every : (d : ℕ) → d < 2 → (ws : List ℕ) (c : ℕ) → has (every d ws) c ≡ (has ws c && eqb (c % 2) d)
unfolding has
has_every d h ws c =
    let e : c % 64 % 2 ≡ c % 2 = omega arith in
    rw (get_or_every d ws (c / 64), in_word_and (get_or ws (c / 64) 0) (mask d) (c % 64), in_word_mask d (c % 64) h (omega arith), e)

pub has_none : (n c : ℕ) → has (replicate n 0) c ≡ false
unfolding has
has_none n c = rw (zeros n (c / 64)) (in_word_zero (c % 64))
  where
    zeros : (n i : ℕ) → ◌≡◌ {A = ℕ} (get_or (replicate n 0) i 0) 0
    zeros zero i = refl
    zeros (suc n) zero = refl
    zeros (suc n) (suc i) = zeros n i

-- words stay words
pub put_fits : (ws : List ℕ) (b : ℕ) → Fits ws → Fits (put ws b)
unfolding put
put_fits ws b f i = go (ℕ_discrete i (b / 64)) (dec_lt (b / 64) (length ws))
  where
    w : ℕ
    w = bit_or (get_or ws (b / 64) 0) (2 ^ (63 - b % 64))

    go : Dec (i ≡ b / 64) → Dec (b / 64 < length ws) → get_or (set ws (b / 64) w) i 0 < 2 ^ 64
    go (yes e) (yes h) = rw (e, get_or-set_same ws (b / 64) w 0 h) (or_lt 64 (get_or ws (b / 64) 0) (2 ^ (63 - b % 64)) (f (b / 64)) (pow-lt {i = 63 - b % 64} {j = 64} (omega arith)))
    go (yes e) (no h) = rw (set_out ws (b / 64) w (omega arith)) (f i)
    go (no n) h = rw (get_or-set_other ws (b / 64) i w 0 n) (f i)

pub joined_fits : (a b : List ℕ) → length a ≡ length b → Fits a → Fits b → Fits (joined a b)
joined_fits a b e f g i = rw (get_or_joined a b e i) (or_lt 64 (get_or a i 0) (get_or b i 0) (f i) (g i))

pub every_fits : (d : ℕ) (ws : List ℕ) → Fits ws → Fits (every d ws)
every_fits d ws f i = rw (get_or_every d ws i) (omega (arith, and_le_l (get_or ws i 0) (mask d), f i))

-- a set is its bits
pub set_ext : (a b : List ℕ) → length a ≡ length b → Fits a → Fits b → ((c : ℕ) → c < 64 * length a → has a c ≡ has b c) → a ≡ b
set_ext a b e f g same =
    ext_get_or 0 a b e
    (λ i h. word_ext (get_or a i 0) (get_or b i 0) (f i) (g i) (λ p l. sym (has_at a i p l) ∙ same (64 * i + p) (omega arith) ∙ has_at b i p l))

-- blank is no bit
pub blank_none : (ws : List ℕ) → blank ws ≡ true → (c : ℕ) → has ws c ≡ false
unfolding blank has
blank_none ws t c = rw (zero_at (dec_lt (c / 64) (length ws))) (in_word_zero (c % 64))
  where
    zero_at : Dec (c / 64 < length ws) → get_or ws (c / 64) 0 ≡ 0
    zero_at (yes h) = eqb→eq (get_or ws (c / 64) 0) 0 (all_at (λ i. eqb (get_or ws i 0) 0) (length ws) (T_true t) (c / 64) h)
    zero_at (no h) = get_or-eq_default ws 0 {n = c / 64} (omega arith)

pub none_blank : (ws : List ℕ) → Fits ws → ((c : ℕ) → c < 64 * length ws → has ws c ≡ false) → blank ws ≡ true
unfolding blank
none_blank ws f none = true_T _ (all_intro (λ i. eqb (get_or ws i 0) 0) (length ws) (λ i h. T_true (eq-eqb (get_or ws i 0) 0 (zero_at i h))))
  where
    zero_at : (i : ℕ) → i < length ws → get_or ws i 0 ≡ 0
    zero_at i h =
        word_ext (get_or ws i 0) 0 (f i) (omega arith)
        (λ p l. sym (has_at ws i p l) ∙ none (64 * i + p) (omega arith) ∙ sym (in_word_zero p))
