-- What `new` answers, and what a set that it makes holds.
use mathlib.Core.Bool.{Bool, true, false, cond}
use mathlib.Core.List.{List, []}
use mathlib.Core.Path.{◌≡◌, refl, sym, ap, ◌∙◌}
use mathlib.Core.Logic.{◌⊎◌, inl, inr, ◌≢◌}
use Prim.Native.Nat.{ℕ, ◌≤◌, ◌<◌}
use native.Mathlib.Decide.{dec_le, ℕ_discrete}
use native.Mathlib.Omega.{arith}
use lib.Dec.{T, eqb, eqb→eq}
use lib.ListN.{length, get_or, get_or-eq_default}
use borrow.Author.Tests.{eq-eqb, ne_eqb, lt-ltb, le-ltb}
use Rattle.sizes.specs.Sizes.{VOTERS, PAIRS}
use Rattle.loops.specs.Sum.{sum}
use Rattle.loops.proofs.Sums.{sum_cong, sum_at, sum_some}
use Rattle.columns.specs.Lists.{padded}
use Rattle.columns.proofs.Padded.{length_padded, get_padded}
use Rattle.weights.specs.Weights.{most}
use Rattle.totals.specs.Totals.{total_of}
use Rattle.voter_pairs.specs.Voters.{Pair, voters, weight_of, ids_of, weights_of}
use Rattle.voter_set.specs.Voters.{laid, new}
use Rattle.voter_pairs.specs.Steps.{Rising}
use Rattle.voter_info.specs.Info.{told}
use Rattle.voter_set.specs.Lookup.{get}
use Rattle.voter_set.specs.Good.{good, Good}
use Rattle.voter_pairs.proofs.Pairs.{length_ids, length_weights}
use Rattle.voter_pairs.proofs.Shares.{Live, weight_in, held, rising_pair, live_at, held_at, held_some, sum_weights, voters_rising, voters_live, voters_weight, voters_held}
use Rattle.voter_laws.proofs.Goods.{means_good}
use Rattle.voter_laws.proofs.Lookups.{Known, Unknown, get_cases}
use Rattle.refusals.specs.declared.Refusal.TheVariants.{NoWeight, TooManyVoters, VoterList, WeightOverflow}
use Rattle.std.specs.Prelude.{Ok, Err, replicate}
use Rattle.refusals.specs.declared.Refusal.{Refusal}
use Rattle.voter_set.specs.declared.VoterSet.{VoterSet}

-- the refusals, each given exactly when the earlier ones are not
module _ (ids weights : List ℕ) where
  pub refused_1 : (length ids ≢ length weights) ⊎ (PAIRS < length ids) → new ids weights ≡ Err VoterList
  unfolding new
  refused_1 (inl h) = rw (ne_eqb _ _ h)
  refused_1 (inr h) = go (ℕ_discrete (length ids) (length weights))
    where
      go : Dec (length ids ≡ length weights) → new ids weights ≡ Err VoterList
      go (yes e) = rw (eq-eqb _ _ e, lt-ltb _ _ h)
      go (no e) = rw (ne_eqb _ _ e)

  module _ (same : length ids ≡ length weights) (few : length ids ≤ PAIRS) where
    pub refused_2 : most < total_of weights → new ids weights ≡ Err WeightOverflow
    unfolding new
    refused_2 h = rw (eq-eqb _ _ same, le-ltb _ _ few, lt-ltb _ _ h)

    module _ (fits : total_of weights ≤ most) where
      pub refused_3 : total_of weights ≡ 0 → new ids weights ≡ Err NoWeight
      unfolding new
      refused_3 h = rw (eq-eqb _ _ same, le-ltb _ _ few, le-ltb _ _ fits, eq-eqb _ 0 h)

      module _ (some : total_of weights ≢ 0) where
        pub refused_4 : VOTERS < length (voters ids weights (length ids)) → new ids weights ≡ Err TooManyVoters
        unfolding new
        refused_4 h = rw (eq-eqb _ _ same, le-ltb _ _ few, le-ltb _ _ fits, ne_eqb _ 0 some, lt-ltb _ _ h)

        pub made : length (voters ids weights (length ids)) ≤ VOTERS
            → new ids weights ≡ Ok (laid (voters ids weights (length ids)) (total_of weights))
        unfolding new
        made h = rw (eq-eqb _ _ same, le-ltb _ _ few, le-ltb _ _ fits, ne_eqb _ 0 some, le-ltb _ _ h)

  -- what pairs have to be for a set to be made of them
  pub record Fit : Type 0 where
    pub same : length ids ≡ length weights
    pub few : length ids ≤ PAIRS
    pub fits : total_of weights ≤ most
    pub some_weight : total_of weights ≢ 0
    pub few_voters : length (voters ids weights (length ids)) ≤ VOTERS

  pub fit_made : Fit → new ids weights ≡ Ok (laid (voters ids weights (length ids)) (total_of weights))
  fit_made f = made f.same f.few f.fits f.some_weight f.few_voters

  pub new_cases : ((e : Refusal) × (new ids weights ≡ Err e)) ⊎ Fit
  new_cases =
      one (ℕ_discrete (length ids) (length weights)) (dec_le (length ids) PAIRS) (dec_le (total_of weights) most) (ℕ_discrete (total_of weights) 0)
      (dec_le (length (voters ids weights (length ids))) VOTERS)
    where
      one : Dec (length ids ≡ length weights) → Dec (length ids ≤ PAIRS) → Dec (total_of weights ≤ most) → Dec (total_of weights ≡ 0)
          → Dec (length (voters ids weights (length ids)) ≤ VOTERS) → ((e : Refusal) × (new ids weights ≡ Err e)) ⊎ Fit
      one (no a) b c d e = inl (VoterList, refused_1 (inl a))
      one (yes a) (no b) c d e = inl (VoterList, refused_1 (inr (omega arith)))
      one (yes a) (yes b) (no c) d e = inl (WeightOverflow, refused_2 a b (omega arith))
      one (yes a) (yes b) (yes c) (yes d) e = inl (NoWeight, refused_3 a b c d)
      one (yes a) (yes b) (yes c) (no d) (no e) = inl (TooManyVoters, refused_4 a b c d (omega arith))
      one (yes a) (yes b) (yes c) (no d) (yes e) =
          inr (record { same = a; few = b; fits = c; some_weight = d; few_voters = e })

  pub made_fit : {s : VoterSet} → new ids weights ≡ Ok s → Fit
  made_fit m = go new_cases
    where
      go : ((e : Refusal) × (new ids weights ≡ Err e)) ⊎ Fit → Fit
      go (inl (n, e)) = absurd (let z : ◌≡◌ {A = ℕ} 0 1 = cc in omega arith)
      go (inr f) = f

-- voters by rising id as a set keep the shape rules
pub laid_good : (ps : List Pair) (t : ℕ) → Rising 0 ps → Live ps → weight_in ps ≡ t → length ps ≤ VOTERS → Good (laid ps t)
laid_good ps t r v e l =
    record {
      ids_sized = length_padded VOTERS (ids_of ps) (omega (arith, length_ids ps));
      weights_sized = length_padded VOTERS (weights_of ps) (omega (arith, length_weights ps));
      few = l;
      ids_rise = λ j k h m. rw (get_padded VOTERS (ids_of ps) j, get_padded VOTERS (ids_of ps) k) (rising_pair ps 0 j k r h m);
      weigh_some = λ k h. rw (get_padded VOTERS (weights_of ps) k) (live_at ps k v h);
      no_id = λ k h. get_padded VOTERS (ids_of ps) k ∙ get_or-eq_default (ids_of ps) 0 (omega (arith, length_ids ps));
      no_weight = λ k h. get_padded VOTERS (weights_of ps) k ∙ get_or-eq_default (weights_of ps) 0 (omega (arith, length_weights ps));
      total_is = sym (sum_cong VOTERS _ _ (λ k h. get_padded VOTERS (weights_of ps) k) ∙ sum_weights VOTERS ps l ∙ e);
      threshold_is = refl;
    }

-- a set without voters keeps the shape rules
pub empty_good : Good (record { ids = replicate VOTERS 0; weights = replicate VOTERS 0; count = 0; threshold = 0; total = 0 })
unfolding padded
empty_good = laid_good [] 0 tt tt refl (omega arith)

-- a set that was made is what the pairs say
pub made_laid : (ids weights : List ℕ) {s : VoterSet} → new ids weights ≡ Ok s → s ≡ laid (voters ids weights (length ids)) (total_of weights)
made_laid ids weights m = let e = fit_made ids weights (made_fit ids weights m) in cc

-- every set that `new` hands back keeps the shape rules
pub new_good : (ids weights : List ℕ) {s : VoterSet} → new ids weights ≡ Ok s → Good s
new_good ids weights m =
    let f = made_fit ids weights m in
    rw (made_laid ids weights m)
    (laid_good (voters ids weights (length ids)) (total_of weights) (voters_rising ids weights (length ids)) (voters_live ids weights (length ids))
    (voters_weight ids weights (length ids) ∙ ap (λ (n : ℕ). sum n (λ k. get_or weights k 0)) f.same) f.few_voters)

pub new_is_good : (ids weights : List ℕ) {s : VoterSet} → new ids weights ≡ Ok s → good s ≡ true
new_is_good ids weights m = means_good _ (new_good ids weights m)

-- a pair with an id gives it weight, and nothing else does
module _ (ids weights : List ℕ) (n x : ℕ) where
  pub pair_weighs : (k : ℕ) → k < n → get_or ids k 0 ≡ x → 0 < get_or weights k 0 → 0 < weight_of ids weights n x
  pair_weighs k h e l =
      let s = sum_at n (λ j. cond (eqb (get_or ids j 0) x) (get_or weights j 0) 0) k h in
      let q : cond (eqb (get_or ids k 0) x) (get_or weights k 0) 0 ≡ get_or weights k 0 = rw (eq-eqb _ x e) in
      omega arith

  pub weighs_pair : 0 < weight_of ids weights n x → (k : ℕ) × (k < n) × (get_or ids k 0 ≡ x) × (0 < get_or weights k 0)
  weighs_pair h =
      let s = sum_some n (λ j. cond (eqb (get_or ids j 0) x) (get_or weights j 0) 0) h in
      let p = parts (eqb (get_or ids s.0 0) x) (get_or weights s.0 0) s.2 in
      (s.0, s.1, eqb→eq _ _ p.0, p.1)
    where
      parts : (b : Bool) (w : ℕ) → 0 < cond b w 0 → T b × (0 < w)
      parts true w l = (tt, l)
      parts false w l = absurd (omega arith)

-- a set that was made
module _ (ids weights : List ℕ) {s : VoterSet} (m : new ids weights ≡ Ok s) where
  shape : s ≡ laid (voters ids weights (length ids)) (total_of weights)
  shape = made_laid ids weights m

  -- its total is the weight of all pairs
  pub made_total : s.total ≡ total_of weights
  made_total = ap (λ (r : VoterSet). r.total) shape

  pub made_count : s.count ≡ length (voters ids weights (length ids))
  made_count = ap (λ (r : VoterSet). r.count) shape

  made_id : (k : ℕ) → get_or s.ids k 0 ≡ get_or (ids_of (voters ids weights (length ids))) k 0
  made_id k = ap (λ (r : VoterSet). get_or r.ids k 0) shape ∙ get_padded VOTERS _ k

  -- a voter's weight is what the pairs give its id
  pub made_weight : (k : ℕ) → k < s.count
      → get_or s.weights k 0 ≡ weight_of ids weights (length ids) (get_or s.ids k 0)
  made_weight k h =
      let ps = voters ids weights (length ids) in
      ap (λ (r : VoterSet). get_or r.weights k 0) shape ∙ get_padded VOTERS (weights_of ps) k
      ∙ held_at ps 0 k (voters_rising ids weights (length ids)) (omega (arith, made_count)) ∙ ap (λ (x : ℕ). held x ps) (sym (made_id k))
      ∙ voters_held ids weights _ (length ids)

  -- each id of non-zero weight has a place
  pub made_voter : (x : ℕ) → 0 < weight_of ids weights (length ids) x
      → (k : ℕ) × (k < s.count) × (get_or s.ids k 0 ≡ x)
  made_voter x h =
      let r = held_some x (voters ids weights (length ids)) (omega (arith, voters_held ids weights x (length ids))) in
      (r.0, omega (arith, r.1, made_count), made_id r.0 ∙ r.2)

  -- so what the set tells of any id is what the pairs give it, and it is a voter exactly where that is not zero
  pub made_told : (x : ℕ) → told (get s x) ≡ weight_of ids weights (length ids) x
  made_told x = go (get_cases s (new_good ids weights m) x)
    where
      go : ((k : ℕ) × Known s x k) ⊎ Unknown s x
          → told (get s x) ≡ weight_of ids weights (length ids) x
      go (inl (k, r)) =
          ap told r.got ∙ made_weight k r.inside ∙ ap (weight_of ids weights (length ids)) r.is_id
      go (inr r) = ap told r.got ∙ nothing (ℕ_discrete (weight_of ids weights (length ids) x) 0)
        where
          nothing : Dec (weight_of ids weights (length ids) x ≡ 0) → 0 ≡ weight_of ids weights (length ids) x
          nothing (yes e) = sym e
          nothing (no e) = let v = made_voter x (omega arith) in absurd (r.nowhere v.0 v.1 v.2)
