-- What a verdict says of the vote it was given for.
use mathlib.Core.Bool.{Bool, true, false, cond}
use mathlib.Core.List.{List}
use mathlib.Core.Path.{◌≡◌, refl, sym, ap, subst, ◌∙◌}
use Prim.Native.Nat.{ℕ}
use native.Mathlib.Omega.{arith}
use lib.Dec.{T, eqb, eqb→eq}
use Rattle.loops.proofs.Tests.{T_true}
use Rattle.grandpa.specs.Tree.{below}
use Rattle.voter_info.specs.declared.VoterInfo.{VoterInfo}
use Rattle.voter_info.specs.Info.{look_up}
use Rattle.blocks.specs.Add.{place_of, on_place}
use Rattle.context.specs.declared.Phase.{Phase}
use Rattle.context.specs.Votes.{bit}
use Rattle.nodes.specs.Nodes.{col}
use Rattle.tracker.specs.declared.Votes.{Votes}
use Rattle.tracker.specs.declared.Pair.{Pair}
use Rattle.tracker.specs.declared.VoteMultiplicity.{VoteMultiplicity}
use Rattle.tracker.specs.declared.VoteMultiplicity.TheVariants.{Silent, Single, Equivocated}
use Rattle.tracker.specs.declared.AddVoteResult.TheVariants as added
use Rattle.tracker.specs.Recorded.{same, add_vote, first_pair, second_pair, recorded}
use Rattle.judging.specs.declared.Verdict.{Verdict}
use Rattle.judging.specs.declared.Verdict.TheVariants.{First, Second}
use Rattle.judging.specs.Judge.{refused, judge_first, by_rule, on_voter, judge}
use Rattle.std.specs.Prelude.{Option, Some, None}
use Rattle.refusals.specs.declared.Refusal.TheVariants.{OffTheBase, UnknownTarget, WrongNumber}

-- a first vote for the block at b: its target is there, by its number, at or below the base
pub record Aimed (ids numbers parents : List ℕ) (blocks base : ℕ) (p : Pair) (b : ℕ) : Type 0 where
  pub placed : place_of ids blocks p.target ≡ Some b
  pub numbered : col numbers b ≡ p.number
  pub inside : T (below (col parents) base b)

pub first_aimed : (ids numbers parents : List ℕ) (blocks base : ℕ) (v w : VoterInfo) (p : Pair) (b : ℕ)
    → judge_first ids numbers parents blocks base v p ≡ First w b → (v ≡ w) × Aimed ids numbers parents blocks base p b
unfolding judge_first
first_aimed ids numbers parents blocks base v w p b e = go (place_of ids blocks p.target) refl e
  where
    here : (k : ℕ) → place_of ids blocks p.target ≡ Some k → (x : Bool) → eqb (col numbers k) p.number ≡ x
        → (y : Bool) → below (col parents) base k ≡ y → cond x (cond y (First v k) (refused OffTheBase)) (refused WrongNumber) ≡ First w b
        → (v ≡ w) × Aimed ids numbers parents blocks base p b
    here k q true s true t r =
        let i : ◌≡◌ {A = VoterInfo} v w = cc in
        let j : k ≡ b = cc in (
          i,
          subst (λ (z : ℕ). Aimed ids numbers parents blocks base p z) j
              (record { placed = q; numbered = eqb→eq _ _ (T_true s); inside = T_true t }),
        )
    here k q true s false t r = absurd (let z : ◌≡◌ {A = ℕ} 0 1 = cc in omega arith)
    here k q false s y t r = absurd (let z : ◌≡◌ {A = ℕ} 0 1 = cc in omega arith)

    go : (l : Option ℕ) → place_of ids blocks p.target ≡ l
        → on_place l (λ k. cond (eqb (col numbers k) p.number) (cond (below (col parents) base k) (First v k) (refused OffTheBase)) (refused WrongNumber)) (refused UnknownTarget) ≡ First w b
        → (v ≡ w) × Aimed ids numbers parents blocks base p b
    go (Some k) q r = here k q (eqb (col numbers k) p.number) refl (below (col parents) base k) refl r
    go None q r = absurd (let z : ◌≡◌ {A = ℕ} 0 1 = cc in omega arith)

-- a verdict on a first vote never speaks of a second
pub first_only : (ids numbers parents : List ℕ) (blocks base : ℕ) (v w : VoterInfo) (p a : Pair)
    → judge_first ids numbers parents blocks base v p ≡ Second w a → ⊥
unfolding judge_first
first_only ids numbers parents blocks base v w p a e = go (place_of ids blocks p.target) e
  where
    here : (k : ℕ) (x y : Bool) → cond x (cond y (First v k) (refused OffTheBase)) (refused WrongNumber) ≡ Second w a → ⊥
    here k true true r = absurd (let z : ◌≡◌ {A = ℕ} 0 1 = cc in omega arith)
    here k true false r = absurd (let z : ◌≡◌ {A = ℕ} 0 1 = cc in omega arith)
    here k false y r = absurd (let z : ◌≡◌ {A = ℕ} 0 1 = cc in omega arith)

    go : (l : Option ℕ)
        → on_place l (λ k. cond (eqb (col numbers k) p.number) (cond (below (col parents) base k) (First v k) (refused OffTheBase)) (refused WrongNumber)) (refused UnknownTarget) ≡ Second w a
        → ⊥
    go (Some k) r = here k (eqb (col numbers k) p.number) (below (col parents) base k) r
    go None r = absurd (let z : ◌≡◌ {A = ℕ} 0 1 = cc in omega arith)

-- how often a voter spoke, by the pairs that are recorded
pub spoke_not : (votes : Votes) (ids numbers : List ℕ) (j : ℕ) → recorded votes ids numbers j ≡ Silent → col votes.counts j ≡ 0
unfolding recorded
spoke_not votes ids numbers j e = go (eqb (col votes.counts j) 0) refl (eqb (col votes.counts j) 1) e
  where
    go : (x : Bool) → eqb (col votes.counts j) 0 ≡ x → (y : Bool)
        → cond x Silent (cond y (Single (first_pair votes.first_block votes.first_signature ids numbers j)) (Equivocated (first_pair votes.first_block votes.first_signature ids numbers j) (second_pair votes.second_target votes.second_number votes.second_signature j))) ≡ Silent
        → col votes.counts j ≡ 0
    go true s y r = eqb→eq _ _ (T_true s)
    go false s true r = absurd (let z : ◌≡◌ {A = ℕ} 0 1 = cc in omega arith)
    go false s false r = absurd (let z : ◌≡◌ {A = ℕ} 0 1 = cc in omega arith)

pub spoke_once : (votes : Votes) (ids numbers : List ℕ) (j : ℕ) (a : Pair) → recorded votes ids numbers j ≡ Single a
    → (col votes.counts j ≡ 1) × (a ≡ first_pair votes.first_block votes.first_signature ids numbers j)
unfolding recorded
spoke_once votes ids numbers j a e = go (eqb (col votes.counts j) 0) (eqb (col votes.counts j) 1) refl e
  where
    go : (x y : Bool) → eqb (col votes.counts j) 1 ≡ y
        → cond x Silent (cond y (Single (first_pair votes.first_block votes.first_signature ids numbers j)) (Equivocated (first_pair votes.first_block votes.first_signature ids numbers j) (second_pair votes.second_target votes.second_number votes.second_signature j))) ≡ Single a
        → (col votes.counts j ≡ 1) × (a ≡ first_pair votes.first_block votes.first_signature ids numbers j)
    go true y s r = absurd (let z : ◌≡◌ {A = ℕ} 0 1 = cc in omega arith)
    go false true s r = (eqb→eq _ _ (T_true s), let i : ◌≡◌ {A = Pair} a (first_pair votes.first_block votes.first_signature ids numbers j) = cc in i)
    go false false s r = absurd (let z : ◌≡◌ {A = ℕ} 0 1 = cc in omega arith)

module _ (voters weights : List ℕ) (size : ℕ) (ids numbers parents : List ℕ) (blocks base : ℕ) (votes : Votes) (phase : Phase) (signer : ℕ) (p : Pair) where
  abbrev judged : Verdict
  judged = judge voters weights size ids numbers parents blocks base votes phase signer p

  abbrev held : VoterInfo → VoteMultiplicity
  held v = recorded votes ids numbers (bit phase v.position)

  abbrev by : VoterInfo → Verdict
  by v = by_rule (add_vote (held v) p) (judge_first ids numbers parents blocks base v p) v

  -- rule 2: of a voter that was silent
  pub judged_first : (v : VoterInfo) (b : ℕ) → judged ≡ First v b
      → (look_up voters weights size signer ≡ Some v) × (col votes.counts (bit phase v.position) ≡ 0) × Aimed ids numbers parents blocks base p b
  unfolding judge
  judged_first v b e = go (look_up voters weights size signer) refl e
    where
      Said : Type 0
      Said = (look_up voters weights size signer ≡ Some v) × (col votes.counts (bit phase v.position) ≡ 0) × Aimed ids numbers parents blocks base p b

      rule : (w : VoterInfo) → look_up voters weights size signer ≡ Some w → (m : VoteMultiplicity) → held w ≡ m
          → by_rule (add_vote m p) (judge_first ids numbers parents blocks base w p) w ≡ First v b → Said
      rule w q Silent s r =
          let f = first_aimed ids numbers parents blocks base w v p b r in
          let i : w ≡ v = f.0 in
          (q ∙ ap Some i, subst (λ (z : VoterInfo). col votes.counts (bit phase z.position) ≡ 0) i (spoke_not votes ids numbers _ s), f.1)
      rule w q (Single a) s r = twice (same a p) r
        where
          twice : (x : Bool) → by_rule (cond x added.Duplicated (added.Equivocated a)) (judge_first ids numbers parents blocks base w p) w ≡ First v b → Said
          twice true t = absurd (let z : ◌≡◌ {A = ℕ} 0 1 = cc in omega arith)
          twice false t = absurd (let z : ◌≡◌ {A = ℕ} 0 1 = cc in omega arith)
      rule w q (Equivocated a c) s r = thrice (same a p) (same c p) r
        where
          thrice : (x y : Bool) → by_rule (cond x added.Duplicated (cond y added.Duplicated added.Ignored)) (judge_first ids numbers parents blocks base w p) w ≡ First v b → Said
          thrice true y t = absurd (let z : ◌≡◌ {A = ℕ} 0 1 = cc in omega arith)
          thrice false true t = absurd (let z : ◌≡◌ {A = ℕ} 0 1 = cc in omega arith)
          thrice false false t = absurd (let z : ◌≡◌ {A = ℕ} 0 1 = cc in omega arith)

      go : (l : Option VoterInfo) → look_up voters weights size signer ≡ l → on_voter l by ≡ First v b → Said
      go (Some w) q r = rule w q (held w) refl r
      go None q r = absurd (let z : ◌≡◌ {A = ℕ} 0 1 = cc in omega arith)

  -- rule 4: of a voter with one vote, which is told beside
  pub judged_second : (v : VoterInfo) (a : Pair) → judged ≡ Second v a
      → (look_up voters weights size signer ≡ Some v) × (col votes.counts (bit phase v.position) ≡ 1)
      × (a ≡ first_pair votes.first_block votes.first_signature ids numbers (bit phase v.position))
  unfolding judge
  judged_second v a e = go (look_up voters weights size signer) refl e
    where
      Said : Type 0
      Said = (look_up voters weights size signer ≡ Some v) × (col votes.counts (bit phase v.position) ≡ 1)
          × (a ≡ first_pair votes.first_block votes.first_signature ids numbers (bit phase v.position))

      rule : (w : VoterInfo) → look_up voters weights size signer ≡ Some w → (m : VoteMultiplicity) → held w ≡ m
          → by_rule (add_vote m p) (judge_first ids numbers parents blocks base w p) w ≡ Second v a → Said
      rule w q Silent s r = absurd (first_only ids numbers parents blocks base w v p a r)
      rule w q (Single c) s r = twice (same c p) r
        where
          twice : (x : Bool) → by_rule (cond x added.Duplicated (added.Equivocated c)) (judge_first ids numbers parents blocks base w p) w ≡ Second v a → Said
          twice true t = absurd (let z : ◌≡◌ {A = ℕ} 0 1 = cc in omega arith)
          twice false t =
              let i : ◌≡◌ {A = VoterInfo} w v = cc in
              let j : ◌≡◌ {A = Pair} c a = cc in
              let o = spoke_once votes ids numbers _ c s in (
                q ∙ ap Some i,
                subst (λ (z : VoterInfo). col votes.counts (bit phase z.position) ≡ 1) i o.0,
                sym j ∙ o.1 ∙ ap (λ (z : VoterInfo). first_pair votes.first_block votes.first_signature ids numbers (bit phase z.position)) i,
              )
      rule w q (Equivocated c d) s r = thrice (same c p) (same d p) r
        where
          thrice : (x y : Bool) → by_rule (cond x added.Duplicated (cond y added.Duplicated added.Ignored)) (judge_first ids numbers parents blocks base w p) w ≡ Second v a → Said
          thrice true y t = absurd (let z : ◌≡◌ {A = ℕ} 0 1 = cc in omega arith)
          thrice false true t = absurd (let z : ◌≡◌ {A = ℕ} 0 1 = cc in omega arith)
          thrice false false t = absurd (let z : ◌≡◌ {A = ℕ} 0 1 = cc in omega arith)

      go : (l : Option VoterInfo) → look_up voters weights size signer ≡ l → on_voter l by ≡ Second v a → Said
      go (Some w) q r = rule w q (held w) refl r
      go None q r = absurd (let z : ◌≡◌ {A = ℕ} 0 1 = cc in omega arith)
