-- What asking a voter set tells.
use mathlib.Core.Bool.{true, false}
use mathlib.Core.Path.{◌≡◌, refl, sym, ap, ◌∙◌, subst}
use mathlib.Core.Logic.{◌⊎◌, inl, inr}
use Prim.Native.Nat.{ℕ, ◌<◌, ◌%◌}
use native.Mathlib.Nat.{mod-lt}
use native.Mathlib.Omega.{arith}
use lib.Dec.{eqb→eq}
use lib.ListN.{get_or}
use borrow.Author.Tests.{lt-ltb}
use Rattle.columns.specs.Find.{used, find}
use Rattle.columns.proofs.Finds.{find_at, find_nothing, at_find, nothing_find, contains_find, contains_nothing}
use Rattle.voter_info.specs.declared.VoterInfo.{VoterInfo}
use Rattle.voter_info.proofs.Infos.{info_voter, look_up_at, look_up_nothing}
use Rattle.voter_set.specs.declared.VoterSet.{VoterSet}
use Rattle.voter_set.specs.Lookup.{get, has, nth, nth_mod}
use Rattle.voter_set.specs.Good.{Good}
use Rattle.std.specs.Prelude.{Option, Some, None}

-- the voter that stands at place k of a set
abbrev pub voter_at : VoterSet → ℕ → VoterInfo
voter_at s k = record { position = k; weight = record { 0 = get_or s.weights k 0 } }

-- an id that the voter at place k has, and one that none has
pub record Known (s : VoterSet) (x k : ℕ) : Type 0 where
  pub inside : k < s.count
  pub is_id : get_or s.ids k 0 ≡ x
  pub got : get s x ≡ Some (voter_at s k)
  pub contained : has s x ≡ true

pub record Unknown (s : VoterSet) (x : ℕ) : Type 0 where
  pub nowhere : (k : ℕ) → k < s.count → get_or s.ids k 0 ≡ x → ⊥
  pub got : get s x ≡ None
  pub contained : has s x ≡ false

-- of a set that keeps the shape rules
module _ (s : VoterSet) (g : Good s) where
  all_used : used s.ids s.count ≡ s.count
  all_used = omega (arith, g.few, g.ids_sized)

  place_of : (k : ℕ) → k < s.count → find s.ids s.count (get_or s.ids k 0) ≡ Some k
  place_of k h =
      at_find s.ids s.count (get_or s.ids k 0) k (omega (arith, all_used)) refl (λ j l e. omega (arith, g.ids_rise j k l h))

  pub get_voter : (k : ℕ) → k < s.count → get s (get_or s.ids k 0) ≡ Some (voter_at s k)
  get_voter k h = look_up_at s.ids s.weights s.count _ k (place_of k h) ∙ info_voter k (get_or s.weights k 0) (g.weigh_some k h)

  pub get_outside : (x : ℕ) → ((k : ℕ) → k < s.count → get_or s.ids k 0 ≡ x → ⊥) → get s x ≡ None
  get_outside x f =
      look_up_nothing s.ids s.weights s.count x
      (nothing_find s.ids s.count x (λ k h e. f k (omega (arith, all_used)) e))

  -- an id is a voter's, or outside
  pub get_cases : (x : ℕ) → ((k : ℕ) × Known s x k) ⊎ Unknown s x
  get_cases x = go (find s.ids s.count x) refl
    where
      go : (f : Option ℕ) → find s.ids s.count x ≡ f → ((k : ℕ) × Known s x k) ⊎ Unknown s x
      go (Some k) e =
          let l = find_at s.ids s.count x k e in
          let h : k < s.count = omega (arith, l.inside, all_used) in
          inl (
            k,
            record {
              inside = h;
              is_id = eqb→eq _ _ l.passes;
              got = look_up_at s.ids s.weights s.count x k e ∙ info_voter k (get_or s.weights k 0) (g.weigh_some k h);
              contained = contains_find s.ids s.count x k e;
            },
          )
      go None e =
          inr (record {
            nowhere = λ k h q. find_nothing s.ids s.count x e k (omega (arith, all_used)) q;
            got = look_up_nothing s.ids s.weights s.count x e;
            contained = contains_nothing s.ids s.count x e;
          })

  -- a voter that is told is the one at its place
  pub get_says : (x : ℕ) (v : VoterInfo) → get s x ≡ Some v → Known s x v.position × (v ≡ voter_at s v.position)
  get_says x v e = go (get_cases x)
    where
      go : ((k : ℕ) × Known s x k) ⊎ Unknown s x → Known s x v.position × (v ≡ voter_at s v.position)
      go (inl (k, r)) =
          let same : ◌≡◌ {A = VoterInfo} v (voter_at s k) = let q = r.got in cc in
          let p : k ≡ v.position = ap (λ (i : VoterInfo). i.position) (sym same) in
          (subst (λ (i : ℕ). Known s x i) p r, same ∙ ap (voter_at s) p)
      go (inr r) = absurd (let q = r.got in let z : ◌≡◌ {A = ℕ} 0 1 = cc in omega arith)

  pub nth_at : (n : ℕ) → n < s.count → nth s n ≡ Some ((get_or s.ids n 0), (voter_at s n))
  unfolding nth
  nth_at n h = rw (lt-ltb n s.count h, info_voter n (get_or s.weights n 0) (g.weigh_some n h))

  pub nth_mod_at : (n : ℕ) → 0 < s.count → nth_mod s n ≡ Some ((get_or s.ids (n % s.count) 0), (voter_at s (n % s.count)))
  unfolding nth_mod
  nth_mod_at n h = nth_at (n % s.count) (mod-lt n h)
