-- The order of the pairs does not matter.
use mathlib.Core.Bool.{cond, not}
use mathlib.Core.List.{List}
use mathlib.Core.Path.{◌≡◌, refl, sym, ap, ◌∙◌}
use mathlib.Core.Logic.{inl, ◌≢◌}
use Prim.Native.Nat.{ℕ, ◌<◌}
use native.Mathlib.Decide.{ℕ_discrete}
use native.Mathlib.Omega.{arith}
use lib.Dec.{eqb, ltb}
use lib.ListN.{length, get_or, set, length-set}
use lib.Seq.{get_or-set_same, get_or-set_other}
use Rattle.sizes.specs.Sizes.{PAIRS}
use Rattle.loops.specs.Sum.{sum}
use Rattle.loops.proofs.Sums.{sum_swap}
use Rattle.weights.specs.Weights.{most}
use Rattle.totals.specs.Totals.{total_of}
use Rattle.voter_pairs.specs.Voters.{Pair, voters, weight_of}
use Rattle.voter_set.specs.Voters.{seated, new}
use Rattle.voter_laws.specs.Order.{swap, Reordered, as_it_is, swapped}
use Rattle.voter_pairs.proofs.Shares.{weight_in, fixed, voters_rising, voters_live, voters_weight, voters_held}
use Rattle.voter_laws.proofs.Made.{refused_1}
use Rattle.refusals.specs.declared.Refusal.TheVariants.{NoWeight, VoterList, WeightOverflow}
use Rattle.std.specs.Prelude.{Result, Err}
use Rattle.refusals.specs.declared.Refusal.{Refusal}
use Rattle.voter_set.specs.declared.VoterSet.{VoterSet}

-- `new` looks at the two lengths, the voters and the total alone
judged : ℕ → ℕ → List Pair → ℕ → Result VoterSet Refusal
judged m n ps t =
    cond (not (eqb m n)) (Err VoterList)
    (cond (ltb PAIRS m) (Err VoterList) (cond (ltb most t) (Err WeightOverflow) (cond (eqb t 0) (Err NoWeight) (seated ps t))))

new_judged : (ids weights : List ℕ)
    → new ids weights ≡ judged (length ids) (length weights) (voters ids weights (length ids)) (total_of weights)
unfolding new judged
new_judged ids weights = refl

judged_same : {m m' n n' t t' : ℕ} {ps ps' : List Pair} → m ≡ m' → n ≡ n' → ps ≡ ps' → t ≡ t' → judged m n ps t ≡ judged m' n' ps' t'
judged_same p q r s = λ i. judged (p i) (q i) (r i) (s i)

-- pairs that give each id the same weight make the same set, or get the same refusal
module _ (ids weights ids' weights' : List ℕ) (a : length ids ≡ length ids') (b : length weights ≡ length weights')
    (given : (x : ℕ) → weight_of ids weights (length ids) x ≡ weight_of ids' weights' (length ids') x) where
  pub same_voters : voters ids weights (length ids) ≡ voters ids' weights' (length ids')
  same_voters =
      fixed _ _ 0 (voters_rising ids weights (length ids)) (voters_rising ids' weights' (length ids')) (voters_live ids weights (length ids))
      (voters_live ids' weights' (length ids'))
      (λ x. voters_held ids weights x (length ids) ∙ given x ∙ sym (voters_held ids' weights' x (length ids')))

  same_total : length ids ≡ length weights → total_of weights ≡ total_of weights'
  same_total e =
      ap (λ (n : ℕ). sum n (λ k. get_or weights k 0)) (sym e) ∙ sym (voters_weight ids weights (length ids)) ∙ ap weight_in same_voters
      ∙ voters_weight ids' weights' (length ids') ∙ ap (λ (n : ℕ). sum n (λ k. get_or weights' k 0)) (sym a ∙ e ∙ b)

  pub same_weights : new ids weights ≡ new ids' weights'
  same_weights = go (ℕ_discrete (length ids) (length weights))
    where
      go : Dec (length ids ≡ length weights) → new ids weights ≡ new ids' weights'
      go (yes e) =
          new_judged ids weights ∙ judged_same a b same_voters (same_total e) ∙ sym (new_judged ids' weights')
      go (no e) = refused_1 ids weights (inl e) ∙ sym (refused_1 ids' weights' (inl (λ q. e (a ∙ q ∙ sym b))))

module _ (i j : ℕ) (xs : List ℕ) where
  length_swap : length (swap i j xs) ≡ length xs
  length_swap = simp length-set

  swap_left : i < length xs → j < length xs → get_or (swap i j xs) i 0 ≡ get_or xs j 0
  swap_left h l = go (ℕ_discrete i j)
    where
      go : Dec (i ≡ j) → get_or (swap i j xs) i 0 ≡ get_or xs j 0
      go (yes e) = rw e (get_or-set_same (set xs j (get_or xs j 0)) j (get_or xs j 0) 0 (rw (length-set xs j (get_or xs j 0)) l))
      go (no e) = get_or-set_other (set xs i (get_or xs j 0)) j i (get_or xs i 0) 0 e ∙ get_or-set_same xs i (get_or xs j 0) 0 h

  swap_right : j < length xs → get_or (swap i j xs) j 0 ≡ get_or xs i 0
  swap_right l = get_or-set_same (set xs i (get_or xs j 0)) j (get_or xs i 0) 0 (rw (length-set xs i (get_or xs j 0)) l)

  swap_other : (k : ℕ) → k ≢ i → k ≢ j → get_or (swap i j xs) k 0 ≡ get_or xs k 0
  swap_other k p q = get_or-set_other (set xs i (get_or xs j 0)) j k (get_or xs i 0) 0 q ∙ get_or-set_other xs i k (get_or xs j 0) 0 p

-- two pairs that change places give each id the same weight
swap_weighs : (ids weights : List ℕ) (i j x : ℕ) → length ids ≡ length weights → i < length ids → j < length ids
    → weight_of (swap i j ids) (swap i j weights) (length ids) x ≡ weight_of ids weights (length ids) x
swap_weighs ids weights i j x e h l =
    sum_swap (length ids) _ _ i j h l
    (both (swap_left i j ids h l) (swap_left i j weights (omega arith) (omega arith)))
    (both (swap_right i j ids l) (swap_right i j weights (omega arith)))
    (λ k p q. both (swap_other i j ids k p q) (swap_other i j weights k p q))
  where
    both : {a b c d : ℕ} → a ≡ b → c ≡ d → cond (eqb a x) c 0 ≡ cond (eqb b x) d 0
    both p q = λ i. cond (eqb (p i) x) (q i) 0

pub swap_same : (ids weights : List ℕ) (i j : ℕ) → i < length ids → j < length ids → new ids weights ≡ new (swap i j ids) (swap i j weights)
swap_same ids weights i j h l = go (ℕ_discrete (length ids) (length weights))
  where
    go : Dec (length ids ≡ length weights) → new ids weights ≡ new (swap i j ids) (swap i j weights)
    go (yes e) =
        same_weights ids weights (swap i j ids) (swap i j weights) (sym (length_swap i j ids)) (sym (length_swap i j weights))
        (λ x. sym (swap_weighs ids weights i j x e h l) ∙ ap (λ (n : ℕ). weight_of (swap i j ids) (swap i j weights) n x) (sym (length_swap i j ids)))
    go (no e) =
        refused_1 ids weights (inl e)
        ∙ sym (refused_1 (swap i j ids) (swap i j weights) (inl (λ q. e (sym (length_swap i j ids) ∙ q ∙ length_swap i j weights))))

-- so does any other order
pub reordered_same : {ids weights ids' weights' : List ℕ} → Reordered ids weights ids' weights' → new ids weights ≡ new ids' weights'
reordered_same as_it_is = refl
reordered_same (swapped {ids = ids} {weights = weights} i j h l r) = swap_same ids weights i j h l ∙ reordered_same r
