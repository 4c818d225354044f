-- Demand 2: what the calls tell of a reached round is what the definitions say of its recorded votes.
use mathlib.Core.Bool.{Bool, false, cond}
use mathlib.Core.Path.{◌≡◌, refl, sym, ap, subst, ◌∙◌}
use mathlib.Core.Logic.{◌↔◌, inl, inr}
use Prim.Native.Nat.{ℕ, pred, ◌≤◌, ◌<◌}
use native.Mathlib.Omega.{arith}
use lib.Dec.{T, ltb→lt, ltb}
use Rattle.loops.proofs.Tests.{left_of}
use Rattle.grandpa.specs.Weight.{fault}
use Rattle.grandpa.specs.Tree.{below}
use Rattle.grandpa.specs.Vote.{total, equivocators}
use Rattle.grandpa.specs.Answers.{Says, ghost_of, Finalized, finalized_of, Estimate, estimate_of, Completable, completable_of, every_child, with_node, Told, told_from, told}
use Rattle.grandpa.proofs.Trees.{below_le}
use Rattle.grandpa.proofs.Answers.{ghost_says, ghost_unique, ghost_inside, finalized_unique, finalized_says, estimate_unique, estimate_says, completable_says, forms_agree}
use Rattle.voter_laws.proofs.Goods.{total_used}
use Rattle.context.specs.declared.Phase.{Phase}
use Rattle.context.specs.declared.Phase.TheVariants.{Prevote, Precommit}
use Rattle.answer_laws.specs.Faithful.{Faithful}
use Rattle.answer_laws.proofs.Ghosted.{votes_placed}
use Rattle.held_laws.specs.Kept.{setting, Kept}
use Rattle.held_laws.proofs.Parts.{kept_faithful}
use Rattle.round.specs.declared.Round.{Round}
use Rattle.round.specs.Shape.{frame, held}
use Rattle.round.specs.Ask as ask
use Rattle.round_laws.specs.Later.{Reached, voters_of, blocks_of, votes_of, answers_of}
use Rattle.round_laws.proofs.Shaped.{shaped_kept}
use Rattle.round_laws.proofs.Lasting.{reached_shaped, reached_fits, answers_meant}
use Rattle.demands.specs.First.{Keeps}
use Rattle.demands.specs.Second.{Weighs, Few, shown, meant, IsGhost, IsFinalized, IsEstimate, IsCompletable, IsCompletableNoded, Second, Demand2}
use Rattle.demands.proofs.Shown.{ghost_shown, finalized_shown, estimate_shown, completable_shown, completable_yes, state_shown}
use Rattle.std.specs.Prelude.{Option, Some, None, Ok, true}

-- what is told from the one block of which P holds
lift : (P : ℕ → Type 0) (Q : ℕ → ℕ → Type 0) → ((a b : ℕ) → P a → P b → a ≡ b) → (g : ℕ) → P g → (o : Option ℕ) → Says (Q g) o
    → Says (λ b. (h : ℕ) × P h × Q h b) o
lift P Q only g p None n = λ x q. n x (subst (λ (h : ℕ). Q h x) (only q.0 g q.1 p) q.2)
lift P Q only g p (Some b) q = (g, p, q)

module _ (r : Round) (reached : Reached r) where
  pub keeps : Keeps r
  keeps = reached_shaped r reached

  pub kept : Kept (frame r) (held r)
  kept = shaped_kept r (reached_fits r reached) keeps

  faith : Faithful (setting (frame r) (held r))
  faith = kept_faithful (frame r) (held r) kept

  pub whole : r.context.voters.total ≡ total (voters_of r)
  whole = total_used r.context.voters kept.good

  few_of : (phase : Phase) → Few phase r → equivocators (voters_of r) (votes_of r phase) ≤ fault (total (voters_of r))
  few_of phase few = subst (λ (n : ℕ). equivocators (voters_of r) (votes_of r phase) ≤ fault n) whole few

  module _ (weighs : Weighs r) (few : Few Prevote r) where
    some_weight : 0 < total (voters_of r)
    some_weight = omega (arith, whole)

    falls : (k : ℕ) → (blocks_of r).up k ≤ pred k
    falls = faith.tabled.falls

    pub told_meant : answers_of r ≡ meant r
    told_meant = answers_meant r reached weighs few

    only_ghost : (a b : ℕ) → IsGhost r a → IsGhost r b → a ≡ b
    only_ghost = ghost_unique (voters_of r) (blocks_of r) faith.tabled some_weight (votes_of r Prevote) (few_of Prevote few)

    ghost_in : (g : ℕ) → IsGhost r g → T (below (blocks_of r).up r.graph.base g)
    ghost_in g p =
        ghost_inside (voters_of r) (blocks_of r) faith.tabled some_weight (votes_of r Prevote) (few_of Prevote few) r.graph.base g p
        (faith.shape.nodes.tabled r.graph.base faith.shape.nodes.base_used) (votes_placed (setting (frame r) (held r)) faith Prevote)

    -- what the definitions say of each answer
    abbrev Said : Told → Type 0
    Said x =
        Says (IsGhost r) x.ghost × Says (IsFinalized r) x.finalized × Says (IsEstimate r) x.estimate
        × (T x.completable ↔ IsCompletableNoded r)
        × (((g : ℕ) → IsGhost r g → ⊥) → (x.ghost ≡ None) × (x.finalized ≡ None) × (x.estimate ≡ None) × (x.completable ≡ false))

    told_says : (o : Option ℕ) → Says (IsGhost r) o
        → Said (told_from (voters_of r) (blocks_of r) r.graph.base (votes_of r Prevote) (votes_of r Precommit) o)
    unfolding told_from
    told_says None n =
        (n, (λ x p. n p.0 p.1), (λ x p. n p.0 p.1), ((λ e. absurd e), λ p. absurd (n p.0 p.1)), λ f. (refl, refl, refl, refl))
    told_says (Some g) p = (
      p,
      lift (IsGhost r) (λ h b. Finalized (voters_of r) (blocks_of r).up r.graph.base (votes_of r Precommit) h b) only_ghost g p
          (finalized_of (voters_of r) (blocks_of r).up r.graph.base (votes_of r Precommit) g)
          (finalized_says (voters_of r) (blocks_of r).up falls r.graph.base (votes_of r Precommit) g (ghost_in g p)),
      lift (IsGhost r) (λ h b. Estimate (voters_of r) (blocks_of r).up r.graph.base (votes_of r Precommit) h b) only_ghost g p
          (estimate_of (voters_of r) (blocks_of r).up r.graph.base (votes_of r Precommit) g)
          (estimate_says (voters_of r) (blocks_of r).up falls r.graph.base (votes_of r Precommit) g (ghost_in g p)),
      ((λ t. (g, p, agree.0 t)), λ q. agree.1 (subst Noded (only_ghost q.0 g q.1 p) q.2)),
      λ f. absurd (f g p),
    )
      where
        Noded : ℕ → Type 0
        Noded h =
            Completable (voters_of r) (blocks_of r).up r.graph.base (votes_of r Precommit)
            (with_node (voters_of r) (blocks_of r) (votes_of r Prevote) (votes_of r Precommit)) h

        agree : T (completable_of (voters_of r) (blocks_of r).up r.graph.base (votes_of r Precommit)
            (with_node (voters_of r) (blocks_of r) (votes_of r Prevote) (votes_of r Precommit)) (blocks_of r).count g)
            ↔ Noded g
        agree =
            completable_says (voters_of r) (blocks_of r).up falls r.graph.base (votes_of r Precommit) g (ghost_in g p)
            (with_node (voters_of r) (blocks_of r) (votes_of r Prevote) (votes_of r Precommit)) (blocks_of r).count
            (λ k a. ltb→lt k (blocks_of r).count (left_of (ltb k (blocks_of r).count) _ a))

    said : Said (answers_of r)
    unfolding told
    said =
        subst Said (sym told_meant)
        (told_says (ghost_of (voters_of r) (blocks_of r) (votes_of r Prevote)) (ghost_says (voters_of r) (blocks_of r) (votes_of r Prevote)))

    above_ghost : (g b : ℕ) → IsGhost r g → T (below (blocks_of r).up b g) → b < r.table.count
    above_ghost g b p h = omega (arith, below_le (blocks_of r).up falls b g h, p.highest.tabled)

    estimate_in : (g b : ℕ) → IsGhost r g → Estimate (voters_of r) (blocks_of r).up r.graph.base (votes_of r Precommit) g b → b < r.table.count
    estimate_in g b p (inl q) = omega (arith, q.1, p.highest.tabled)
    estimate_in g b p (inr q) = above_ghost g b p q.1.above

    -- the two forms of completable
    any_child : Few Precommit r → IsCompletableNoded r ↔ IsCompletable r
    any_child few_precommits = ((λ c. (c.0, c.1, (agree c.0).1 c.2)), λ c. (c.0, c.1, (agree c.0).0 c.2))
      where
        agree : (g : ℕ)
            → Completable (voters_of r) (blocks_of r).up r.graph.base (votes_of r Precommit) (every_child (blocks_of r)) g
            ↔ Completable (voters_of r) (blocks_of r).up r.graph.base (votes_of r Precommit)
            (with_node (voters_of r) (blocks_of r) (votes_of r Prevote) (votes_of r Precommit)) g
        agree =
            forms_agree (voters_of r) (blocks_of r) falls some_weight r.graph.base (votes_of r Prevote) (votes_of r Precommit)
            (votes_placed (setting (frame r) (held r)) faith Precommit) (few_of Precommit few_precommits)

    noded : (ask.completable r ≡ Ok true) ↔ IsCompletableNoded r
    noded = ((λ e. said.3.0 ((completable_yes r keeps).0 e)), λ c. (completable_yes r keeps).1 (said.3.1 c))

    answers : Second r
    answers =
        record {
          ghost = record {
            block = (answers_of r).ghost;
            tells = ghost_shown r keeps;
            says = said.0;
            inside = λ b p. p.highest.tabled;
            only = only_ghost;
          };
          finalized = record {
            block = (answers_of r).finalized;
            tells = finalized_shown r keeps;
            says = said.1;
            inside = λ b p. above_ghost p.0 b p.1 p.2.first.above;
            only = λ a b p q.
                finalized_unique (voters_of r) (blocks_of r).up falls r.graph.base (votes_of r Precommit) q.0 a b
                (subst (λ (g : ℕ). Finalized (voters_of r) (blocks_of r).up r.graph.base (votes_of r Precommit) g a) (only_ghost p.0 q.0 p.1 q.1) p.2)
                q.2;
          };
          estimate = record {
            block = (answers_of r).estimate;
            tells = estimate_shown r keeps;
            says = said.2;
            inside = λ b p. estimate_in p.0 b p.1 p.2;
            only = λ a b p q.
                estimate_unique (voters_of r) (blocks_of r).up falls r.graph.base (votes_of r Precommit) q.0 a b
                (subst (λ (g : ℕ). Estimate (voters_of r) (blocks_of r).up r.graph.base (votes_of r Precommit) g a) (only_ghost p.0 q.0 p.1 q.1) p.2)
                q.2;
          };
          completable = λ few_precommits.
              ((λ e. (any_child few_precommits).0 (noded.0 e)), λ c. noded.1 ((any_child few_precommits).1 c));
          completable_noded = noded;
          state = state_shown r keeps;
          yes_or_no = completable_shown r keeps;
          before = λ f.
              let n = said.4 f in (
                ghost_shown r keeps ∙ ap (shown r) n.0,
                finalized_shown r keeps ∙ ap (shown r) n.1,
                estimate_shown r keeps ∙ ap (shown r) n.2,
                completable_shown r keeps ∙ ap Ok n.3,
              );
          computed = told_meant;
        }

pub demand_2 : Demand2
demand_2 = answers
