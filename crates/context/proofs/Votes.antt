-- `voted` under each way to make a set of votes, and the weights of such sets. The layers above need only these.
use mathlib.Core.Bool.{Bool, true, false, cond, ◌&&◌, ◌||◌}
use mathlib.Core.List.{List}
use mathlib.Core.Path.{◌≡◌, refl, sym, ap, ◌∙◌, subst}
use Prim.Native.Nat.{ℕ, zero, suc, ◌+◌, ◌-◌, ◌*◌, ◌≤◌, ◌<◌, min}
use native.Mathlib.Omega.{arith}
use borrow.Author.Tests.{eq-eqb, ne_eqb}
use lib.Dec.{T, eqb, eqb→eq}
use lib.ListN.{length, get_or, replicate}
use Rattle.sizes.specs.Sizes.{WORDS, VOTERS}
use Rattle.loops.specs.Sum.{sum, weigh}
use Rattle.loops.proofs.Tests.{T_true, T_false, in_left, left_of, right_of, or_false, same_test}
use Rattle.loops.proofs.Sums.{sum_short, weigh_cong, weigh_mono, weigh_le, weigh_both, weigh_put}
use Rattle.weights.specs.Weights.{most}
use Rattle.bitfield.specs.Bits.{has, put, joined, blank}
use Rattle.bitfield.proofs.Sets.{Fits, has_past, has_none, has_put, has_joined, blank_none, length_put, put_fits, set_ext}
use Rattle.context.specs.declared.Phase.{Phase}
use Rattle.context.specs.declared.Phase.TheVariants.{Prevote, Precommit}
use Rattle.layouts.specs.Layout.{index_place}
use Rattle.layouts.proofs.Indices.{Whole, voters_whole}
use Rattle.context.specs.Votes.{offset, bit, phase_at, voted, weight_of}
use Rattle.context.proofs.Places.{same_phase, bit_same, bit_inside, bit_outside, bit_parts, place_within}

-- words that hold the votes of n voters, in whole runs
pub record Holds (bits : List ℕ) (n : ℕ) : Type 0 where
  pub whole : Whole n
  pub words : 64 * length bits ≡ 2 * n

-- those of a round
pub holds_voters : (bits : List ℕ) → length bits ≡ WORDS → Holds bits VOTERS
holds_voters bits two = record { whole = voters_whole; words = omega arith }

-- which voters voted
module _ (phase : Phase) (p : ℕ) where
  pub voted_none : (n : ℕ) → voted (replicate n 0) phase p ≡ false
  unfolding voted
  voted_none n = has_none n (bit phase p)

  pub voted_blank : (bits : List ℕ) → blank bits ≡ true → voted bits phase p ≡ false
  unfolding voted
  voted_blank bits h = blank_none bits h (bit phase p)

  -- a place at or past the voters of the words
  pub voted_past : (bits : List ℕ) (n : ℕ) → Holds bits n → n ≤ p → voted bits phase p ≡ false
  unfolding voted
  voted_past bits n room h = has_past bits (bit phase p) (omega (arith, room.words, bit_outside n room.whole phase p h))

  pub voted_joined : (a b : List ℕ) → length a ≡ length b → voted (joined a b) phase p ≡ (voted a phase p || voted b phase p)
  unfolding voted
  voted_joined a b e = has_joined a b e (bit phase p)

-- a vote put in is there, and nothing else is
pub voted_put : (bits : List ℕ) (n : ℕ) → Holds bits n → (phase : Phase) (p : ℕ) → p < n → (other : Phase) (q : ℕ)
    → voted (put bits (bit phase p)) other q ≡ (voted bits other q || (same_phase other phase && eqb q p))
unfolding voted
voted_put bits n room phase p h other q =
    has_put bits (bit phase p) (bit other q) (omega (arith, room.words, bit_inside n room.whole phase p h))
    ∙ ap (λ (x : Bool). has bits (bit other q) || x) (bit_same other phase q p)

-- sets of as many words with the same votes are one
pub votes_ext : (a b : List ℕ) (n : ℕ) → Holds a n → length a ≡ length b → Fits a → Fits b
    → ((phase : Phase) (p : ℕ) → p < n → voted a phase p ≡ voted b phase p) → a ≡ b
unfolding voted
votes_ext a b n room e f g same =
    set_ext a b e f g
    (λ c h. rw (bit_parts c) at (same (phase_at c) (index_place c) (place_within n room.whole c (omega (arith, room.words, h)))))

-- a vote put in again changes nothing
module _ (bits : List ℕ) (n : ℕ) (room : Holds bits n) (phase : Phase) (p : ℕ) (h : p < n) (t : voted bits phase p ≡ true) where
  pub voted_again : (other : Phase) (q : ℕ) → voted (put bits (bit phase p)) other q ≡ voted bits other q
  voted_again other q = voted_put bits n room phase p h other q ∙ had (voted bits other q) (same_phase other phase && eqb q p) there
    where
      had : (x y : Bool) → (T y → T x) → (x || y) ≡ x
      had true y g = refl
      had false true g = absurd (g tt)
      had false false g = refl

      one : (a b : Phase) → T (same_phase a b) → a ≡ b
      one Prevote Prevote s = refl
      one Prevote Precommit s = absurd s
      one Precommit Prevote s = absurd s
      one Precommit Precommit s = refl

      there : T (same_phase other phase && eqb q p) → T (voted bits other q)
      there s =
          let e = one other phase (left_of (same_phase other phase) (eqb q p) s) in
          let i = eqb→eq q p (right_of (same_phase other phase) (eqb q p) s) in
          rw (e, i) (T_true t)

  pub put_again : Fits bits → put bits (bit phase p) ≡ bits
  put_again f =
      votes_ext (put bits (bit phase p)) bits n
      (record { whole = room.whole; words = ap (λ (m : ℕ). 64 * m) (length_put bits (bit phase p)) ∙ room.words })
      (length_put bits (bit phase p)) (put_fits bits (bit phase p) f) f (λ other q l. voted_again other q)

-- the weight of those who voted, saturation aside
module _ (n : ℕ) (v : ℕ → ℕ) (phase : Phase) where
  pub weigh_joined : (a b : List ℕ) → length a ≡ length b
      → weigh n (voted (joined a b) phase) v ≡ weigh n (λ p. voted a phase p || voted b phase p) v
  weigh_joined a b e = weigh_cong n v _ _ (λ p h. voted_joined phase p a b e)

  pub weigh_or_and : (a b : List ℕ) → length a ≡ length b
      → weigh n (voted a phase) v + weigh n (voted b phase) v ≡ weigh n (voted (joined a b) phase) v + weigh n (λ p. voted a phase p && voted b phase p) v
  weigh_or_and a b e = omega (arith, weigh_joined a b e, weigh_both n v (voted a phase) (voted b phase))

  pub weigh_joined_le : (a b : List ℕ) → length a ≡ length b → weigh n (voted a phase) v ≤ weigh n (voted (joined a b) phase) v
  weigh_joined_le a b e =
      weigh_mono n v (voted a phase) (voted (joined a b) phase) (λ p h t. subst T (sym (voted_joined phase p a b e)) (in_left (voted a phase p) (voted b phase p) t))

  module _ (bits : List ℕ) (m : ℕ) (room : Holds bits m) where
    pub weigh_first : (p : ℕ) → p < n → p < m → voted bits phase p ≡ false
        → weigh n (voted (put bits (bit phase p)) phase) v ≡ weigh n (voted bits phase) v + v p
    weigh_first p h l out =
        weigh_put n v (voted bits phase) (voted (put bits (bit phase p)) phase) p h (T_false out)
        (T_true (voted_put bits m room phase p l phase p ∙ rw (out, eq-eqb (offset phase) (offset phase) refl, eq-eqb p p refl)))
        (λ q d. sym (voted_put bits m room phase p l phase q ∙ rw (ne_eqb q p d) (neither (voted bits phase q) (same_phase phase phase))))
      where
        neither : (x y : Bool) → (x || (y && false)) ≡ x
        neither true y = refl
        neither false true = refl
        neither false false = refl

    pub weigh_again : (other : Phase) (p : ℕ) → p < m → voted bits other p ≡ true
        → weigh n (voted (put bits (bit other p)) phase) v ≡ weigh n (voted bits phase) v
    weigh_again other p l t = weigh_cong n v _ _ (λ q h. voted_again bits m room other p l t phase q)

    pub weigh_other : (other : Phase) (p : ℕ) → p < m → same_phase phase other ≡ false
        → weigh n (voted (put bits (bit other p)) phase) v ≡ weigh n (voted bits phase) v
    weigh_other other p l d = weigh_cong n v (voted (put bits (bit other p)) phase) (voted bits phase) (λ q h. voted_put bits m room other p l phase q ∙ rw d (or_false (voted bits phase q)))

    pub weigh_put_le : (other : Phase) (p : ℕ) → p < m
        → weigh n (voted bits phase) v ≤ weigh n (voted (put bits (bit other p)) phase) v
    weigh_put_le other p l =
        weigh_mono n v (voted bits phase) (voted (put bits (bit other p)) phase)
        (λ q h t. subst T (sym (voted_put bits m room other p l phase q)) (in_left (voted bits phase q) (same_phase phase other && eqb q p) t))

-- weights of a column
module _ (weights : List ℕ) where
  -- where the whole column fits nothing saturates
  pub exact : sum VOTERS (λ p. get_or weights p 0) ≤ most → (s : ℕ → Bool) → weight_of weights s ≡ weigh VOTERS s (λ p. get_or weights p 0)
  unfolding weight_of
  exact h s = omega (arith, weigh_le VOTERS (λ p. get_or weights p 0) s)

  pub weight_cong : (s t : ℕ → Bool) → ((p : ℕ) → p < VOTERS → s p ≡ t p) → weight_of weights s ≡ weight_of weights t
  unfolding weight_of
  weight_cong s t same = ap (λ (x : ℕ). min x most) (weigh_cong VOTERS (λ p. get_or weights p 0) s t same)

  -- places without a voter weigh nothing
  pub weigh_voters : (count : ℕ) → count ≤ VOTERS → ((p : ℕ) → count ≤ p → get_or weights p 0 ≡ 0) → (s : ℕ → Bool)
      → weigh VOTERS s (λ p. get_or weights p 0) ≡ weigh count s (λ p. get_or weights p 0)
  weigh_voters count h none s =
      let e : VOTERS ≡ count + (VOTERS - count) = omega arith in
      ap (λ (n : ℕ). weigh n s (λ p. get_or weights p 0)) e ∙ sum_short count (VOTERS - count) _ (λ p l. zero_or (s p) (none p l))
    where
      zero_or : (b : Bool) {x : ℕ} → x ≡ 0 → cond b x 0 ≡ 0
      zero_or true e = e
      zero_or false e = refl
