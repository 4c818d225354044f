-- From one set bit to the next: a step finds the first, and a walk visits the set bits, each once, rising.
use mathlib.Core.Bool.{Bool, true, false, cond, not, ◌&&◌, ◌||◌}
use mathlib.Core.List.{List, [], ◌∷◌}
use mathlib.Core.Path.{◌≡◌, refl, sym, ap, ◌∙◌, subst}
use mathlib.Core.Logic.{◌⊎◌, inl, inr}
use Prim.Native.Nat.{ℕ, zero, suc, ◌+◌, ◌-◌, ◌*◌, ◌/◌, ◌%◌, ◌^◌, ◌≤◌, ◌<◌}
use native.Mathlib.Nat.{add-zero, one-mul}
use native.Mathlib.Decide.{ℕ_discrete, dec_lt}
use native.Mathlib.Omega.{arith}
use borrow.Author.Tests.{eq-eqb, ne_eqb}
use lib.Arith.{bin_ind}
use lib.Bits.{bit_and, and_block, and_self, and_shifted}
use lib.Count.{count_leading_zeros, leading_top, leading_unique}
use lib.Dec.{T, eqb}
use lib.ListN.{length, get_or, set, length-set}
use lib.Pow.{pow_pos, pow_mono, shl-shr, high}
use lib.Seq.{get_or-set_same, get_or-set_other}
use Rattle.loops.proofs.Tests.{T_true, true_T, false_not, true_false, and_true}
use Rattle.loops.proofs.Firsts.{Least, first_cases, first_least, first_none}
use Rattle.std.proofs.Common.{None, Some}
use Rattle.bitfield.specs.Bits.{in_word, has, joined, every}
use Rattle.bitfield.specs.Walk.{Step, cut, next, visit, walk, passing}
use Rattle.bitfield.proofs.Words.{in_word_low, in_word_zero, in_word_cut}
use Rattle.bitfield.proofs.Sets.{has_at, has_past, has_joined, has_every, length_every, length_joined, same_place}

-- the leading zeros of a word that has a bit lead to its first
pub top : (w : ℕ) → 0 < w → w < 2 ^ 64 → Least (in_word w) 64 (count_leading_zeros 64 w)
unfolding in_word
top w h fits =
    let t = leading_top 64 w h fits in
    let j = t.0 in
    let k : 63 - count_leading_zeros 64 w ≡ j = omega (arith, t.1) in
    let under : 2 ^ j ≤ w = t.2 in
    let over : w < 2 ^ suc j = t.3 in
    let parts : w ≡ 1 * 2 ^ j + (w - 2 ^ j) = omega arith in
    let one : w / 2 ^ j ≡ 1 = ap (λ (n : ℕ). n / 2 ^ j) parts ∙ high 1 j (omega arith) in
    let high_up : (i : ℕ) → i < count_leading_zeros 64 w → in_word w i ≡ false
    = λ i l. in_word_low w i (omega (arith, pow_mono {i = suc j} {j = 63 - i} (omega (arith, t.1)))) in
    let first : in_word w (count_leading_zeros 64 w) ≡ true = rw (k, one) in
    record { inside = omega (arith, t.1); passes = T_true first; before = λ i l s. subst T (high_up i l) s }

-- a number that isn't 0 ends in a 1 and k noughts
ends : (w : ℕ) → 0 < w → (m : ℕ) × (k : ℕ) × (w ≡ m * 2 ^ suc k + 2 ^ k)
ends = bin_ind (λ w. 0 < w → (m : ℕ) × (k : ℕ) × (w ≡ m * 2 ^ suc k + 2 ^ k)) (λ h. absurd (omega arith)) (λ w r h. go w h r (ℕ_discrete (w % 2) 1))
  where
    go : (w : ℕ) → 0 < w → (0 < w / 2 → (m : ℕ) × (k : ℕ) × (w / 2 ≡ m * 2 ^ suc k + 2 ^ k)) → Dec (w % 2 ≡ 1) → (m : ℕ) × (k : ℕ) × (w ≡ m * 2 ^ suc k + 2 ^ k)
    go w h r (yes e) = (w / 2, 0, omega arith)
    go w h r (no e) =
        let t = r (omega arith) in
        let double : 2 ^ suc (suc t.1) ≡ 2 * 2 ^ suc t.1 = omega arith in
        (t.0, suc t.1, rw double (omega (arith, t.2)))

-- the lowest bit of a word: `and` with the word less 1 takes it off, and the leading zeros of the difference lead to it
pub record Low (w : ℕ) : Type 0 where
  pub under : count_leading_zeros 64 (w - bit_and w (w - 1)) < 64
  pub passes : in_word w (count_leading_zeros 64 (w - bit_and w (w - 1))) ≡ true
  pub left : bit_and w (w - 1) ≡ w - 2 ^ (63 - count_leading_zeros 64 (w - bit_and w (w - 1)))
  pub less : bit_and w (w - 1) < w

low_of : (w m k : ℕ) → w ≡ m * 2 ^ suc k + 2 ^ k → w < 2 ^ 64 → Low w
unfolding in_word
low_of w m k parts fits =
    let double : 2 ^ suc k ≡ 2 * 2 ^ k = omega arith in
    let pos : 0 < 2 ^ k = pow_pos k in
    let few : k < 64 = bound k (dec_lt k 64) (omega arith) in
    let ands : bit_and (m * 2 ^ suc k + 2 ^ k) (m * 2 ^ suc k + (2 ^ k - 1)) ≡ m * 2 ^ suc k
    = and_block (suc k) m m (2 ^ k) (2 ^ k - 1) (omega arith) (omega arith) ∙ rw (and_self m, alone k) (add-zero (m * 2 ^ suc k)) in
    let one_less : w - 1 ≡ m * 2 ^ suc k + (2 ^ k - 1) = omega arith in
    let rest : bit_and w (w - 1) ≡ m * 2 ^ suc k = rw (one_less, parts) ands in
    let it : w - bit_and w (w - 1) ≡ 2 ^ k = omega arith in
    let zeros : count_leading_zeros 64 (w - bit_and w (w - 1)) ≡ 63 - k
    = ap (count_leading_zeros 64) it ∙ sym (leading_unique 64 (2 ^ k) (63 - k) (suc k) (omega arith) (omega arith) (omega arith)) in
    let place : 63 - count_leading_zeros 64 (w - bit_and w (w - 1)) ≡ k = omega arith in
    let odd : w ≡ (m * 2 + 1) * 2 ^ k = parts ∙ rw double (omega arith) in
    let digit : w / 2 ^ k ≡ m * 2 + 1 = ap (λ (n : ℕ). n / 2 ^ k) odd ∙ shl-shr (m * 2 + 1) k in
    let one : (m * 2 + 1) % 2 ≡ 1 = omega arith in
    record { under = omega arith; passes = rw (place, digit, one); left = rw place (omega arith); less = omega arith }
  where
    bound : (k : ℕ) → Dec (k < 64) → 2 ^ k < 2 ^ 64 → k < 64
    bound k (yes l) g = l
    bound k (no l) g = absurd (omega (arith, pow_mono {i = 64} {j = k} (omega arith)))

    alone : (k : ℕ) → bit_and (2 ^ k) (2 ^ k - 1) ≡ 0
    alone k = ap (λ (n : ℕ). bit_and n (2 ^ k - 1)) (sym (one-mul (2 ^ k))) ∙ and_shifted 1 k (2 ^ k - 1) (omega (arith, pow_pos k))

pub low : (w : ℕ) → 0 < w → w < 2 ^ 64 → Low w
low w h fits = let e = ends w h in low_of w e.0 e.1 e.2 fits

module _ (ws : List ℕ) (b : ℕ) where
  pub length_cut : length (cut ws b) ≡ length ws
  unfolding cut
  length_cut = simp length-set

  pub has_cut : has ws b ≡ true → (c : ℕ) → has (cut ws b) c ≡ (has ws c && not (eqb c b))
  unfolding has cut
  has_cut t c = go (ℕ_discrete (c / 64) (b / 64)) (dec_lt b (64 * length ws))
    where
      w : ℕ
      w = get_or ws (b / 64) 0 - 2 ^ (63 - b % 64)

      go : Dec (c / 64 ≡ b / 64) → Dec (b < 64 * length ws) → in_word (get_or (set ws (b / 64) w) (c / 64) 0) (c % 64) ≡ (in_word (get_or ws (c / 64) 0) (c % 64) && not (eqb c b))
      go d (no h) = absurd (true_false t (has_past ws b (omega arith)))
      go (yes e) (yes h) =
          let at : get_or (set ws (b / 64) w) (b / 64) 0 ≡ w = get_or-set_same ws (b / 64) w 0 (omega arith) in
          rw (e, at, in_word_cut (get_or ws (b / 64) 0) (b % 64) (c % 64) (omega arith) (omega arith) t, same_place (c % 64) (b % 64) c b (λ r. omega arith) (λ r. omega arith))
      go (no n) (yes h) =
          rw (get_or-set_other ws (b / 64) (c / 64) w 0 n, ne_eqb c b (λ e. n (ap (λ (x : ℕ). x / 64) e))) (sym (and_true (in_word (get_or ws (c / 64) 0) (c % 64))))

pub cut_at : (ws : List ℕ) (i p : ℕ) → p < 64 → cut ws (64 * i + p) ≡ set ws i (get_or ws i 0 - 2 ^ (63 - p))
unfolding cut
cut_at ws i p h =
    let q : (64 * i + p) / 64 ≡ i = omega arith in
    let r : (64 * i + p) % 64 ≡ p = omega arith in
    rw (q, r)

-- what a step gives at a bit b, and at none
abbrev pub found : List ℕ → ℕ → Step
found ws b = record { found = Some (record { position = b }); left = cut ws b }

abbrev pub done : List ℕ → Step
done ws = record { found = None; left = ws }

pub next_least : (ws : List ℕ) (b : ℕ) → Least (has ws) (64 * length ws) b → next ws ≡ found ws b
unfolding next
next_least ws b l = first_least (has ws) (found ws) (done ws) (64 * length ws) b l

pub next_none : (ws : List ℕ) → ((c : ℕ) → c < 64 * length ws → T (has ws c) → ⊥) → next ws ≡ done ws
unfolding next
next_none ws none = first_none (has ws) (found ws) (done ws) (64 * length ws) none

-- the words before i are 0 and word i isn't: the leading zeros of word i lead to the first bit
pub next_word : (ws : List ℕ) (i : ℕ) → i < length ws → ((k : ℕ) → k < i → get_or ws k 0 ≡ 0) → 0 < get_or ws i 0 → get_or ws i 0 < 2 ^ 64
    → next ws ≡ found ws (64 * i + count_leading_zeros 64 (get_or ws i 0))
unfolding has
next_word ws i h zeros some fits =
    next_least ws (64 * i + z)
    (record { inside = omega (arith, t.inside); passes = T_true (has_at ws i z t.inside ∙ true_T (in_word (get_or ws i 0) z) t.passes); before = before })
  where
    z : ℕ
    z = count_leading_zeros 64 (get_or ws i 0)

    t : Least (in_word (get_or ws i 0)) 64 z
    t = top (get_or ws i 0) some fits

    before : (c : ℕ) → c < 64 * i + z → T (has ws c) → ⊥
    before c l = go (dec_lt (c / 64) i)
      where
        go : Dec (c / 64 < i) → T (has ws c) → ⊥
        go (yes m) s = subst T (in_word_zero (c % 64)) (rw (zeros (c / 64) m) at s)
        go (no m) s =
            let e : c / 64 ≡ i = omega (arith, t.inside) in
            t.before (c % 64) (omega arith) (rw e at s)

-- the places that pass
module _ (p q : ℕ → Bool) where
  pub passing_cong : (f k : ℕ) → ((c : ℕ) → k ≤ c → p c ≡ q c) → passing p f k ≡ passing q f k
  unfolding passing
  passing_cong zero k same = refl
  passing_cong (suc f) k same = rw (same k (omega arith), passing_cong f (suc k) (λ c h. same c (omega arith)))

  -- the first of them, and those of the test without it
  pub passing_first : (n b : ℕ) → Least p n b → ((c : ℕ) → q c ≡ (p c && not (eqb c b))) → (f k : ℕ) → k ≤ b → b < k + f
      → passing p f k ≡ b ∷ passing q f k
  unfolding passing
  passing_first n b l less zero k h m = absurd (omega arith)
  passing_first n b l less (suc f) k h m = go (ℕ_discrete k b) (λ i. passing_first n b l less f (suc k) i (omega arith))
    where
      go : Dec (k ≡ b) → (suc k ≤ b → passing p f (suc k) ≡ b ∷ passing q f (suc k)) → passing p (suc f) k ≡ b ∷ passing q (suc f) k
      go (yes e) r =
          let in_p : p b ≡ true = true_T (p b) l.passes in
          let out : q b ≡ false = less b ∙ rw (in_p, eq-eqb b b refl) in
          let rest : (c : ℕ) → suc b ≤ c → p c ≡ q c = λ c i. sym (less c ∙ rw (ne_eqb c b (λ j. omega arith)) (and_true (p c))) in
          rw (e, in_p, out) (ap (λ (xs : List ℕ). b ∷ xs) (passing_cong f (suc b) rest))
      go (no e) r =
          let not_yet : p k ≡ false = false_not (p k) (l.before k (omega arith)) in
          let out : q k ≡ false = less k ∙ rw not_yet in
          rw (not_yet, out) (r (omega arith))

pub passing_none : (p : ℕ → Bool) (f k : ℕ) → ((c : ℕ) → c < k + f → T (p c) → ⊥) → passing p f k ≡ []
unfolding passing
passing_none p zero k none = refl
passing_none p (suc f) k none = rw (false_not (p k) (none k (omega arith))) (passing_none p f (suc k) (λ c h. none c (omega arith)))

pub length_passing : (p : ℕ → Bool) (f k : ℕ) → length (passing p f k) ≤ f
unfolding passing
length_passing p zero k = omega arith
length_passing p (suc f) k = go (p k) (length_passing p f (suc k))
  where
    go : (t : Bool) → length (passing p f (suc k)) ≤ f → length (cond t (k ∷ passing p f (suc k)) (passing p f (suc k))) ≤ suc f
    go true h = omega arith
    go false h = omega arith

-- enough steps visit the set bits, and those alone, rising
pub walk_enough : (f : ℕ) (ws : List ℕ) → length (passing (has ws) (64 * length ws) 0) ≤ f → walk f ws ≡ passing (has ws) (64 * length ws) 0
unfolding walk
walk_enough zero ws h = sym (empty (passing (has ws) (64 * length ws) 0) h)
  where
    empty : (xs : List ℕ) → length xs ≤ 0 → xs ≡ []
    empty [] h = refl
    empty (x ∷ xs) h = absurd (omega arith)
walk_enough (suc f) ws h = go (first_cases (has ws) (64 * length ws)) (λ b. walk_enough f (cut ws b))
  where
    n : ℕ
    n = 64 * length ws

    go : ((b : ℕ) × Least (has ws) n b) ⊎ ((c : ℕ) → c < n → T (has ws c) → ⊥)
        → ((b : ℕ) → length (passing (has (cut ws b)) (64 * length (cut ws b)) 0) ≤ f → walk f (cut ws b) ≡ passing (has (cut ws b)) (64 * length (cut ws b)) 0)
        → visit (next ws).found (walk f (next ws).left) ≡ passing (has ws) n 0
    go (inr none) r = rw (next_none ws none) (sym (passing_none (has ws) n 0 (λ c l. none c (omega arith))))
    go (inl (b, l)) r =
        let e : passing (has ws) n 0 ≡ b ∷ passing (has (cut ws b)) n 0
        = passing_first (has ws) (has (cut ws b)) n b l (λ c. has_cut ws b (true_T (has ws b) l.passes) c) n 0 (omega arith) (omega (arith, l.inside)) in
        let same : 64 * length (cut ws b) ≡ n = ap (λ (x : ℕ). 64 * x) (length_cut ws b) in
        let few : length (passing (has (cut ws b)) n 0) ≤ f = omega (arith, ap length e) in
        rw (next_least ws b l, e) (ap (λ (xs : List ℕ). b ∷ xs) (rw same at (r b (rw same few))))

pub walk_all : (ws : List ℕ) → walk (64 * length ws) ws ≡ passing (has ws) (64 * length ws) 0
walk_all ws = walk_enough (64 * length ws) ws (length_passing (has ws) (64 * length ws) 0)

-- the four walks: the bits 2j + d of a set, and of two joined
pub walk_every : (d : ℕ) → d < 2 → (ws : List ℕ) → walk (64 * length ws) (every d ws) ≡ passing (λ c. has ws c && eqb (c % 2) d) (64 * length ws) 0
walk_every d h ws =
    rw (length_every d ws) at (walk_all (every d ws)) ∙ passing_cong _ _ (64 * length ws) 0 (λ c l. has_every d h ws c)

pub walk_merged : (d : ℕ) → d < 2 → (a b : List ℕ) → length a ≡ length b
    → walk (64 * length a) (every d (joined a b)) ≡ passing (λ c. (has a c || has b c) && eqb (c % 2) d) (64 * length a) 0
walk_merged d h a b e =
    rw (length_joined a b) at (walk_every d h (joined a b)) ∙ passing_cong _ _ (64 * length a) 0 (λ c l. ap (λ (x : Bool). x && eqb (c % 2) d) (has_joined a b e c))
