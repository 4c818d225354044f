-- What the loops of the code sum up: a word's voters, a set's, and how many they are.
use mathlib.Core.Bool.{false, cond, not, ◌&&◌}
use mathlib.Core.List.{List}
use mathlib.Core.Path.{◌≡◌, refl, sym, ap, ◌∙◌, subst}
use mathlib.Core.Logic.{◌≢◌}
use Prim.Native.Nat.{ℕ, zero, suc, ◌+◌, ◌-◌, ◌*◌, ◌/◌, ◌%◌, ◌^◌, ◌≤◌, ◌<◌}
use native.Mathlib.Nat.{add-zero, zero-add, sub_self, div-one}
use native.Mathlib.Omega.{arith}
use borrow.Author.Tests.{eq-eqb, ne_eqb}
use lib.Bits.{bit_and}
use lib.Count.{count_leading_zeros, ones, ones-le, ones_step}
use lib.Dec.{T, eqb}
use lib.ListN.{get_or}
use lib.Pow.{shr-shr}
use Rattle.sizes.specs.Sizes.{VOTERS}
use Rattle.loops.specs.Sum.{sum, weigh}
use Rattle.loops.proofs.Tests.{T_true, T_false, and_true, and_false}
use Rattle.loops.proofs.Sums.{sum_cong, sum_split, sum_pairs, weigh_none, weigh_put_in}
use Rattle.weights.specs.Weights.{most, plus}
use Rattle.bitfield.specs.Bits.{in_word, has, every}
use Rattle.bitfield.proofs.Words.{in_word_zero, in_word_cut}
use Rattle.bitfield.proofs.Sets.{has_at, has_every}
use Rattle.bitfield.proofs.Walks.{Low, low}
use Rattle.layouts.proofs.Uses.{index_alternates}
use Rattle.context.specs.declared.Phase.{Phase}
use Rattle.context.specs.declared.Phase.TheVariants.{Prevote, Precommit}
use Rattle.context.specs.Votes.{offset, bit, voted, weight_of, voters_heard_in}

-- the weighing is that of the alternating run
alternates : (phase : Phase) (p : ℕ) → bit phase p ≡ 2 * p + offset phase
unfolding bit
alternates phase p = index_alternates (offset phase) p

-- a word's sum is that of the word without its lowest bit, and that bit's
pub word_step : (v : ℕ → ℕ) (w : ℕ) → 0 < w → w < 2 ^ 64
    → weigh 64 (in_word w) v ≡ weigh 64 (in_word (bit_and w (w - 1))) v + v (count_leading_zeros 64 (w - bit_and w (w - 1)))
word_step v w some fits = weigh_put_in 64 v (in_word (bit_and w (w - 1))) (in_word w) z l.under (T_false out) (T_true l.passes) same
  where
    l : Low w
    l = low w some fits

    z : ℕ
    z = count_leading_zeros 64 (w - bit_and w (w - 1))

    cut : (b : ℕ) → b < 64 → in_word (bit_and w (w - 1)) b ≡ (in_word w b && not (eqb b z))
    cut b h = ap (λ (x : ℕ). in_word x b) l.left ∙ in_word_cut w z b l.under h l.passes

    out : in_word (bit_and w (w - 1)) z ≡ false
    out = cut z l.under ∙ rw (eq-eqb z z refl, l.passes)

    same : (b : ℕ) → b < 64 → b ≢ z → in_word (bit_and w (w - 1)) b ≡ in_word w b
    same b h n = cut b h ∙ rw (ne_eqb b z n) (and_true (in_word w b))

-- a turn of the loop over a word: what it has and what is left are the answer
pub word_turn : (v : ℕ → ℕ) (w s all : ℕ) → 0 < w → w < 2 ^ 64 → plus s (weigh 64 (in_word w) v) ≡ all
    → plus (plus s (v (count_leading_zeros 64 (w - bit_and w (w - 1))))) (weigh 64 (in_word (bit_and w (w - 1))) v) ≡ all
word_turn v w s all some fits e = omega (arith, word_step v w some fits)

pub word_end : (v : ℕ → ℕ) (s all : ℕ) → s ≤ most → plus s (weigh 64 (in_word 0) v) ≡ all → s ≡ all
word_end v s all h e = omega (arith, weigh_none 64 v (in_word 0) (λ b l t. none b t))
  where
    none : (b : ℕ) → T (in_word 0 b) → ⊥
    none b t = subst T (in_word_zero b) t

module _ (v : ℕ → ℕ) where
  -- the bits of one phase are its voters
  pub phase_sum : (n : ℕ) (bits : List ℕ) (phase : Phase)
      → weigh (2 * n) (has (every (offset phase) bits)) (λ b. v (b / 2)) ≡ weigh n (voted bits phase) v
  unfolding voted
  phase_sum n bits phase = sum_pairs n _ ∙ sum_cong n _ _ (λ p h. pair phase p)
    where
      taken : (d : ℕ) → d < 2 → (c : ℕ) → c % 2 ≡ d → has (every d bits) c ≡ has bits c
      taken d h c e = has_every d h bits c ∙ rw (eq-eqb (c % 2) d e) (and_true (has bits c))

      left_out : (d : ℕ) → d < 2 → (c : ℕ) → c % 2 ≢ d → has (every d bits) c ≡ false
      left_out d h c n = has_every d h bits c ∙ rw (ne_eqb (c % 2) d n) (and_false (has bits c))

      pair : (phase : Phase) (p : ℕ)
          → cond (has (every (offset phase) bits) (2 * p)) (v (2 * p / 2)) 0 + cond (has (every (offset phase) bits) (2 * p + 1)) (v ((2 * p + 1) / 2)) 0
          ≡ cond (has bits (bit phase p)) (v p) 0
      pair Prevote p =
          let place : 2 * p / 2 ≡ p = omega arith in
          let at : bit Prevote p ≡ 2 * p = omega (arith, alternates Prevote p) in
          rw (taken 0 (omega arith) (2 * p) (omega arith), left_out 0 (omega arith) (2 * p + 1) (λ e. omega arith), place, at) (add-zero (cond (has bits (2 * p)) (v p) 0))
      pair Precommit p =
          let place : (2 * p + 1) / 2 ≡ p = omega arith in
          rw (left_out 1 (omega arith) (2 * p) (λ e. omega arith), taken 1 (omega arith) (2 * p + 1) (omega arith), place, alternates Precommit p) (zero-add (cond (has bits (2 * p + 1)) (v p) 0))

  -- two words, one after the other
  pub words_sum : (ws : List ℕ)
      → weigh 64 (in_word (get_or ws 0 0)) (λ b. v (0 + b / 2)) + weigh 64 (in_word (get_or ws 1 0)) (λ b. v (32 + b / 2)) ≡ weigh 128 (has ws) (λ b. v (b / 2))
  words_sum ws = sym (sum_split 64 64 _ ∙ halves)
    where
      word : (i : ℕ) (b : ℕ) → b < 64 → cond (has ws (64 * i + b)) (v ((64 * i + b) / 2)) 0 ≡ cond (in_word (get_or ws i 0) b) (v (32 * i + b / 2)) 0
      word i b h =
          let e : (64 * i + b) / 2 ≡ 32 * i + b / 2 = omega arith in
          rw (has_at ws i b h, e)

      first : (b : ℕ) → b < 64 → cond (has ws b) (v (b / 2)) 0 ≡ cond (in_word (get_or ws 0 0) b) (v (0 + b / 2)) 0
      first b h =
          let e : 64 * 0 + b ≡ b = omega arith in
          rw e at (word 0 b h)

      halves : sum 64 (λ b. cond (has ws b) (v (b / 2)) 0) + sum 64 (λ b. cond (has ws (64 + b)) (v ((64 + b) / 2)) 0)
          ≡ weigh 64 (in_word (get_or ws 0 0)) (λ b. v (0 + b / 2)) + weigh 64 (in_word (get_or ws 1 0)) (λ b. v (32 + b / 2))
      halves = rw (sum_cong 64 _ _ first, sum_cong 64 _ _ (word 1))

-- a word has as many ones as bits
pub digits_sum : (n w : ℕ) → w < 2 ^ n → ones w ≡ sum n (λ b. w / 2 ^ (n - suc b) % 2)
unfolding sum
digits_sum zero w h = omega (arith, ones-le 0 w h)
digits_sum (suc n) w h =
    let last : w / 2 ^ (suc n - suc n) % 2 ≡ w % 2 = rw (sub_self (suc n), div-one w) in
    omega (arith, ones_step w, digits_sum n (w / 2) (omega arith), rest, last)
  where
    step : (b : ℕ) → b < n → w / 2 / 2 ^ (n - suc b) % 2 ≡ w / 2 ^ (suc n - suc b) % 2
    step b l =
        let e : 1 + (n - suc b) ≡ suc n - suc b = omega arith in
        ap (λ (m : ℕ). m % 2) (shr-shr w 1 (n - suc b) ∙ ap (λ (m : ℕ). w / 2 ^ m) e)

    rest : sum n (λ b. w / 2 / 2 ^ (n - suc b) % 2) ≡ sum n (λ b. w / 2 ^ (suc n - suc b) % 2)
    rest = sum_cong n _ _ step

pub ones_word : (w : ℕ) → w < 2 ^ 64 → ones w ≡ weigh 64 (in_word w) (λ b. 1)
unfolding in_word
ones_word w h = digits_sum 64 w h ∙ sum_cong 64 _ _ (λ b l. digit b l)
  where
    one : (x : ℕ) → x < 2 → x ≡ cond (eqb x 1) 1 0
    one zero l = refl
    one (suc zero) l = refl
    one (suc (suc x)) l = absurd (omega arith)

    digit : (b : ℕ) → b < 64 → w / 2 ^ (64 - suc b) % 2 ≡ cond (eqb (w / 2 ^ (63 - b) % 2) 1) 1 0
    digit b l =
        let e : 64 - suc b ≡ 63 - b = omega arith in
        rw e (one (w / 2 ^ (63 - b) % 2) (omega arith))

-- two words of one phase: the voters of that phase
pub phase_words : (v : ℕ → ℕ) (bits : List ℕ) (phase : Phase)
    → weigh 64 (in_word (get_or (every (offset phase) bits) 0 0)) (λ b. v (0 + b / 2)) + weigh 64 (in_word (get_or (every (offset phase) bits) 1 0)) (λ b. v (32 + b / 2))
    ≡ weigh VOTERS (voted bits phase) v
phase_words v bits phase = words_sum v (every (offset phase) bits) ∙ phase_sum v VOTERS bits phase

pub phase_weight : (weights bits : List ℕ) (phase : Phase)
    → plus (plus 0 (weigh 64 (in_word (get_or (every (offset phase) bits) 0 0)) (λ b. get_or weights (0 + b / 2) 0))) (weigh 64 (in_word (get_or (every (offset phase) bits) 1 0)) (λ b. get_or weights (32 + b / 2) 0))
    ≡ weight_of weights (voted bits phase)
unfolding weight_of
phase_weight weights bits phase = omega (arith, phase_words (λ p. get_or weights p 0) bits phase)

pub phase_heard : (ws bits : List ℕ) (phase : Phase) → ws ≡ every (offset phase) bits → get_or ws 0 0 < 2 ^ 64 → get_or ws 1 0 < 2 ^ 64
    → ones (get_or ws 0 0) + ones (get_or ws 1 0) ≡ voters_heard_in bits phase
unfolding voters_heard_in
phase_heard ws bits phase e f g =
    let all : weigh 64 (in_word (get_or ws 0 0)) (λ b. 1) + weigh 64 (in_word (get_or ws 1 0)) (λ b. 1) ≡ weigh VOTERS (voted bits phase) (λ p. 1)
    = rw e (phase_words (λ p. 1) bits phase) in
    omega (arith, ones_word (get_or ws 0 0) f, ones_word (get_or ws 1 0) g)
