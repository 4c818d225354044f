-- Two words have the same bits where they are the same; bits that a loop sets one after the other.
use mathlib.Core.Bool.{Bool, true, false, ◌&&◌, ◌||◌, beq}
use mathlib.Core.List.{List}
use mathlib.Core.Path.{◌≡◌, refl, sym, ap, subst, ◌∙◌}
use mathlib.Core.Logic.{◌≢◌}
use Prim.Native.Nat.{ℕ, zero, suc, ◌+◌, ◌^◌, ◌≤◌, ◌<◌}
use native.Mathlib.Decide.{ℕ_discrete}
use native.Mathlib.Omega.{arith}
use lib.Dec.{T, eqb, ltb, ltb→lt}
use lib.Pointwise.{pointwise, bytes_decides}
use lib.ListN.{get_or, length, replicate, get_or-eq_default}
use borrow.Author.Tests.{eq-eqb, ne_eqb, lt-ltb, le-ltb}
use Rattle.sizes.specs.Sizes.{WORDS, VOTES}
use Rattle.loops.proofs.Tests.{T_true, true_T, same_test, and_false, or_false}
use Rattle.loops.proofs.Alls.{all_at, all_intro, all_cong}
use Rattle.bitfield.specs.Bits.{has, put}
use Rattle.bitfield.proofs.Sets.{Fits, has_none, has_put, length_put, set_ext}
use Rattle.vote_bits.specs.Told.{same_bits}

pub beq_eq : (a b : Bool) → T (beq a b) → a ≡ b
beq_eq true true t = refl
beq_eq true false t = absurd t
beq_eq false true t = absurd t
beq_eq false false t = refl

pub beq_refl : (a : Bool) → T (beq a a)
beq_refl true = tt
beq_refl false = tt

pub fits_two : (a : List ℕ) → length a ≡ WORDS → get_or a 0 0 < 2 ^ 64 → get_or a 1 0 < 2 ^ 64 → Fits a
fits_two a s h k zero = h
fits_two a s h k (suc zero) = k
fits_two a s h k (suc (suc i)) =
    let z : get_or a (suc (suc i)) 0 ≡ 0 = get_or-eq_default a 0 (omega arith) in
    rw z (omega arith)

module _ (a b : List ℕ) (sa : length a ≡ WORDS) (sb : length b ≡ WORDS) where
  same_eq : Fits a → Fits b → T (same_bits a (has b)) → a ≡ b
  same_eq fa fb t = set_ext a b (sa ∙ sym sb) fa fb (λ c h. beq_eq (has a c) (has b c) (all_at _ VOTES t c (omega (arith, sa))))

  pub same_lists : Fits a → Fits b → pointwise eqb a b ≡ same_bits a (has b)
  same_lists fa fb =
      same_test (pointwise eqb a b) (same_bits a (has b))
      (λ t. subst (λ (ws : List ℕ). T (same_bits a (has ws))) ((bytes_decides a b).0 (true_T _ t)) (all_intro _ VOTES (λ j h. beq_refl (has a j))))
      (λ t. T_true ((bytes_decides a b).1 (same_eq fa fb t)))

-- the indices before k that pass
abbrev pub upto : (ℕ → Bool) → ℕ → ℕ → Bool
upto p k i = ltb i k && p i

module _ (p : ℕ → Bool) where
  still : (k i : ℕ) → i ≢ k → ltb i (k + 1) ≡ ltb i k
  still k i n =
      same_test (ltb i (k + 1)) (ltb i k) (λ t. T_true (lt-ltb i k (let h = ltb→lt i (k + 1) t in omega arith)))
      (λ t. T_true (lt-ltb i (k + 1) (let h = ltb→lt i k t in omega arith)))

  pub upto_none : (i : ℕ) → upto p 0 i ≡ false
  upto_none i = rw (le-ltb i 0 (omega arith))

  pub upto_all : (k i : ℕ) → i < k → upto p k i ≡ p i
  upto_all k i h = rw (lt-ltb i k h)

  pub upto_skip : (k i : ℕ) → p k ≡ false → upto p k i ≡ upto p (k + 1) i
  upto_skip k i q = go (ℕ_discrete i k)
    where
      go : Dec (i ≡ k) → upto p k i ≡ upto p (k + 1) i
      go (yes e) = rw (e, q) (and_false (ltb k k) ∙ sym (and_false (ltb k (k + 1))))
      go (no n) = rw (still k i n)

  pub upto_put : (k i : ℕ) → p k ≡ true → (upto p k i || eqb i k) ≡ upto p (k + 1) i
  upto_put k i q = go (ℕ_discrete i k)
    where
      go : Dec (i ≡ k) → (upto p k i || eqb i k) ≡ upto p (k + 1) i
      go (yes e) = rw (e, q, le-ltb k k (omega arith), lt-ltb k (k + 1) (omega arith), eq-eqb k k refl)
      go (no n) = rw (still k i n, ne_eqb i k n) (or_false (upto p k i))

-- two words whose bits are the indices before k that pass
pub record Put (bits : List ℕ) (p : ℕ → Bool) (k : ℕ) : Type 0 where
  pub sized : length bits ≡ WORDS
  pub says : (i : ℕ) → has bits i ≡ upto p k i

module _ (p : ℕ → Bool) where
  pub put_none : Put (replicate WORDS 0) p 0
  put_none = record { sized = refl; says = λ i. has_none WORDS i ∙ sym (upto_none p i) }

  pub put_skip : (bits : List ℕ) (k : ℕ) → p k ≡ false → Put bits p k → Put bits p (k + 1)
  put_skip bits k q b = record { sized = b.sized; says = λ i. b.says i ∙ upto_skip p k i q }

  pub put_next : (bits more : List ℕ) (k : ℕ) → k < VOTES → p k ≡ true → more ≡ put bits k → Put bits p k → Put more p (k + 1)
  put_next bits more k h q e b =
      rw e
      (record {
        sized = length_put bits k ∙ b.sized;
        says = λ i.
            has_put bits k i (omega (arith, b.sized)) ∙ ap (λ (z : Bool). z || eqb i k) (b.says i) ∙ upto_put p k i q;
      })

  pub put_all : (other bits : List ℕ) (k : ℕ) → VOTES ≤ k → Put bits p k → same_bits other (has bits) ≡ same_bits other p
  put_all other bits k h b =
      all_cong VOTES (λ j. beq (has other j) (has bits j)) (λ j. beq (has other j) (p j))
      (λ j l. ap (beq (has other j)) (b.says j ∙ upto_all p k j (omega arith)))
