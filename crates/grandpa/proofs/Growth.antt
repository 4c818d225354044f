-- Adding blocks changes no weight and nothing told.
use mathlib.Core.Bool.{Bool, true, false, cond, not, ◌&&◌, ◌||◌}
use mathlib.Core.Path.{◌≡◌, refl, sym, ap, ap₂, fun_ext, subst, ◌∙◌}
use mathlib.Core.Logic.{◌≢◌, ◌⊎◌, inl, inr, ⊎_elim}
use Prim.Native.Nat.{ℕ, zero, suc, pred, ◌+◌, ◌≤◌, ◌<◌}
use native.Mathlib.Omega.{arith}
use lib.Dec.{T, leb, ltb, eqb, ltb→lt, lt→ltb, T_not, not_T}
use borrow.Author.Tests.{lt-ltb}
use Rattle.loops.specs.All.{all, any}
use Rattle.loops.specs.Sum.{weigh}
use Rattle.loops.proofs.Tests.{both, left_of, right_of, either, same_test, le_or_lt}
use Rattle.loops.proofs.Alls.{all_at, all_intro, any_at, any_cong}
use Rattle.loops.proofs.Sums.{weigh_cong}
use Rattle.grandpa.specs.Weight.{threshold}
use Rattle.grandpa.specs.Tree.{Blocks, Tabled, below, child}
use Rattle.grandpa.specs.Vote.{Vote, silent, once, twice, Voters, total, heard, equivocators, backs, lands, phase_weight, weighty, noded}
use Rattle.grandpa.specs.Possible.{possible, possible_at}
use Rattle.grandpa.specs.Answers.{search_up, first_of, finalized_of, estimate_of, with_node, settled_at, completable_of, Told, told_from}
use Rattle.grandpa.specs.Time.{Grown, Placed, VotesPlaced, Stored}
use Rattle.grandpa.proofs.Trees.{below_same, below_le}
use Rattle.std.specs.Prelude.{Option, Some, None}

module _ (vs : Voters) (s t : Blocks) (falls : (k : ℕ) → s.up k ≤ pred k) (grown : Grown s t) (base : ℕ) where
  abbrev same : (a b : ℕ) → b < s.count → below s.up a b ≡ below t.up a b
  same = below_same s.count s.up t.up falls grown.same_up

  pub placed_same : (x : Vote) → Placed s base x → Placed t base x
  placed_same silent p = tt
  placed_same (once x) p = (omega (arith, p.0, grown.more), subst T (same base x p.0) p.1)
  placed_same (twice x) p = (omega (arith, p.0, grown.more), subst T (same base x p.0) p.1)

  backs_same : (b : ℕ) (x : Vote) → Placed s base x → backs s.up b x ≡ backs t.up b x
  backs_same b silent p = refl
  backs_same b (once x) p = same b x p.0
  backs_same b (twice x) p = refl

  lands_same : (b : ℕ) (x : Vote) → Placed s base x → lands s.up b x ≡ lands t.up b x
  lands_same b silent p = refl
  lands_same b (once x) p = same b x p.0
  lands_same b (twice x) p = same b x p.0

  -- a first vote is at or below blocks of the earlier table alone
  lands_early : (k : ℕ) (x : Vote) → Placed s base x → T (lands s.up k x) → k < s.count
  lands_early k silent p l = absurd l
  lands_early k (once x) p l = omega (arith, below_le s.up falls k x l, p.0)
  lands_early k (twice x) p l = omega (arith, below_le s.up falls k x l, p.0)

  pub weight_same : (v : ℕ → Vote) → VotesPlaced vs s base v → (b : ℕ) → phase_weight vs s.up v b ≡ phase_weight vs t.up v b
  weight_same v placed b = weigh_cong vs.size vs.weight (λ i. backs s.up b (v i)) (λ i. backs t.up b (v i)) (λ i h. backs_same b (v i) (placed i h))

  module _ (ok : ℕ → Bool) where
    search_same : (f b : ℕ) → b < s.count → search_up s.up ok base f b ≡ search_up t.up ok base f b
    unfolding search_up
    search_same zero b h = refl
    search_same (suc f) b h =
        ap (λ (r : Option ℕ). cond (ok b) (Some b) (cond (eqb b base) None r))
        (search_same f (s.up b) (omega (arith, falls b)) ∙ ap (search_up t.up ok base f) (grown.same_up b h))

    first_same : (g : ℕ) → g < s.count → first_of s.up ok base g ≡ first_of t.up ok base g
    unfolding first_of
    first_same g h = search_same (suc g) g h

  module _ (pv pc : ℕ → Vote) (placed_v : VotesPlaced vs s base pv) (placed_c : VotesPlaced vs s base pc) where
    weighty_same : weighty vs s.up pc ≡ weighty vs t.up pc
    weighty_same = fun_ext (λ b. ap (leb (threshold (total vs))) (weight_same pc placed_c b))

    possible_same : possible_at vs s.up pc ≡ possible_at vs t.up pc
    possible_same = fun_ext (λ b. ap (possible (total vs) (heard vs pc) (equivocators vs pc)) (weight_same pc placed_c b))

    noded_same : (k : ℕ) → noded vs s.up pv pc k ≡ noded vs t.up pv pc k
    noded_same k =
        any_cong vs.size _ _ (λ i h. ap₂ ◌||◌ (lands_same k (pv i) (placed_v i h)) (lands_same k (pc i) (placed_c i h)))

    noded_early : (k : ℕ) → T (noded vs s.up pv pc k) → k < s.count
    noded_early k n = go (any_at _ vs.size n)
      where
        go : (i : ℕ) × (i < vs.size) × T (lands s.up k (pv i) || lands s.up k (pc i)) → k < s.count
        go r = ⊎_elim (lands_early k (pv r.0) (placed_v r.0 r.1)) (lands_early k (pc r.0) (placed_c r.0 r.1))
            (either (lands s.up k (pv r.0)) (lands s.up k (pc r.0)) r.2)

    module _ (g : ℕ) (h : g < s.count) where
      finalized_same : finalized_of vs s.up base pc g ≡ finalized_of vs t.up base pc g
      unfolding finalized_of
      finalized_same = rw (first_same (weighty vs s.up pc) g h, weighty_same)

      estimate_same : estimate_of vs s.up base pc g ≡ estimate_of vs t.up base pc g
      unfolding estimate_of
      estimate_same = rw (first_same (possible_at vs s.up pc) g h, possible_same)

      abbrev asked : Blocks → ℕ → Bool
      asked b k = child b.up g k && (with_node vs b pv pc k && possible_at vs b.up pc k)

      asked_same : (k : ℕ) → k < s.count → asked s k ≡ asked t k
      asked_same k l =
          rw (grown.same_up k l, lt-ltb k s.count l, lt-ltb k t.count (omega (arith, grown.more)), noded_same k, weight_same pc placed_c k)

      -- a child that came later has no vote-node at or below it, and is not asked
      asked_early : (k : ℕ) → T (asked t k) → k < s.count
      asked_early k a =
          noded_early k (subst T (sym (noded_same k))
          (right_of (ltb k t.count) _ (left_of (with_node vs t pv pc k) _ (right_of (child t.up g k) _ a))))

      childless_same : all s.count (λ k. not (asked s k)) ≡ all t.count (λ k. not (asked t k))
      childless_same =
          same_test (all s.count (λ k. not (asked s k))) (all t.count (λ k. not (asked t k)))
          (λ a. all_intro (λ k. not (asked t k)) t.count (λ k l. not_T (asked t k) (λ q.
          T_not (asked s k) (all_at (λ k. not (asked s k)) s.count a k (asked_early k q)) (subst T (sym (asked_same k (asked_early k q))) q))))
          (λ a. all_intro (λ k. not (asked s k)) s.count (λ k l. not_T (asked s k) (λ q.
          T_not (asked t k) (all_at (λ k. not (asked t k)) t.count a k (omega (arith, grown.more))) (subst T (asked_same k l) q))))

      completable_same : completable_of vs s.up base pc (with_node vs s pv pc) s.count g
          ≡ completable_of vs t.up base pc (with_node vs t pv pc) t.count g
      unfolding completable_of
      completable_same =
          ap (λ (r : Bool). leb (threshold (total vs)) (heard vs pc) && r)
          (ap₂ (settled_at g) childless_same (first_same (possible_at vs s.up pc) g h ∙ ap (λ (ok : ℕ → Bool). first_of t.up ok base g) possible_same))

    pub told_same : (o : Option ℕ) → Stored s base o → told_from vs s base pv pc o ≡ told_from vs t base pv pc o
    unfolding told_from
    told_same None p = refl
    told_same (Some g) p = rw (finalized_same g p.0, estimate_same g p.0, completable_same g p.0)
