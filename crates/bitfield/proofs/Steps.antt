-- A step of the walk as the code takes it, at the first word that isn't 0.
use mathlib.Core.List.{List, [], ◌∷◌}
use mathlib.Core.Path.{◌≡◌, sym, ap, ◌∙◌, subst}
use Prim.Native.Nat.{ℕ, ◌+◌, ◌-◌, ◌*◌, ◌/◌, ◌%◌, ◌^◌, ◌<◌}
use mathlib.Core.Logic.{◌⊎◌, inl, inr}
use native.Mathlib.Omega.{arith}
use lib.Count.{count_leading_zeros}
use lib.Dec.{T}
use lib.ListN.{length, get_or, set}
use Rattle.std.proofs.Common.{None, Some, Option, MatchOption}
use Rattle.loops.proofs.Tests.{true_T}
use Rattle.loops.proofs.Firsts.{Least, first_cases}
use Rattle.bitfield.specs.declared.Bit1.{Bit1}
use Rattle.bitfield.specs.Bits.{has}
use Rattle.bitfield.specs.Walk.{Step, Steps, cut, next, passing, set_bits}
use Rattle.bitfield.proofs.Words.{in_word_zero}
use Rattle.bitfield.proofs.Walks.{top, cut_at, has_cut, length_cut, next_word, next_least, next_none, passing_first, passing_none}

-- no word but 0: no bit is left
pub step_none : (ws : List ℕ) → ((k : ℕ) → k < length ws → get_or ws k 0 ≡ 0) → Steps ws None ws
unfolding has
step_none ws zeros = next_none ws (λ c h t. rw (zeros (c / 64) (omega arith), in_word_zero (c % 64)) at t)

-- the words before word i are 0 and word i isn't
pub step_at : (ws : List ℕ) (i : ℕ) → i < length ws → ((k : ℕ) → k < i → get_or ws k 0 ≡ 0) → 0 < get_or ws i 0 → get_or ws i 0 < 2 ^ 64
    → Steps ws (Some (record { position = 64 * i + count_leading_zeros 64 (get_or ws i 0) }))
    (set ws i (get_or ws i 0 - 2 ^ (63 - count_leading_zeros 64 (get_or ws i 0))))
step_at ws i h zeros some fits =
    let z = count_leading_zeros 64 (get_or ws i 0) in
    next_word ws i h zeros some fits
    ∙ ap (λ (left : List ℕ). record { found = Some (record { position = 64 * i + z }); left = left }) (cut_at ws i z (top (get_or ws i 0) some fits).inside)

-- a step takes the first of the set bits and leaves the others, or there are none
pub step_first : (ws : List ℕ) (bit : Option Bit1) (left : List ℕ) → Steps ws bit left
    → MatchOption bit ((set_bits ws ≡ []) × (set_bits left ≡ [])) (λ b. set_bits ws ≡ b.position ∷ set_bits left)
unfolding set_bits
step_first ws bit left s = subst Takes s (go (first_cases (has ws) n))
  where
    n : ℕ
    n = 64 * length ws

    Takes : Step → Type 0
    Takes st = MatchOption st.found ((set_bits ws ≡ []) × (set_bits st.left ≡ [])) (λ b. set_bits ws ≡ b.position ∷ set_bits st.left)

    go : ((b : ℕ) × Least (has ws) n b) ⊎ ((c : ℕ) → c < n → T (has ws c) → ⊥) → Takes (next ws)
    go (inr none) =
        let e : set_bits ws ≡ [] = passing_none (has ws) n 0 (λ c l. none c (omega arith)) in
        subst Takes (sym (next_none ws none)) (e, e)
    go (inl (b, l)) =
        let e : passing (has ws) n 0 ≡ b ∷ passing (has (cut ws b)) n 0
        = passing_first (has ws) (has (cut ws b)) n b l (λ c. has_cut ws b (true_T (has ws b) l.passes) c) n 0 (omega arith) (omega (arith, l.inside)) in
        let same : 64 * length (cut ws b) ≡ n = ap (λ (x : ℕ). 64 * x) (length_cut ws b) in
        subst Takes (sym (next_least ws b l)) (rw same e)

-- so that fewer are left after each that is found
pub step_fewer : (ws : List ℕ) (b : ℕ) (left : List ℕ) → Steps ws (Some (record { position = b })) left → length (set_bits left) < length (set_bits ws)
step_fewer ws b left s = let e = ap length (step_first ws _ left s) in omega arith
