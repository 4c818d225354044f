-- The GHOST of a phase: from a start of weight T or more it is found, at or below the start; with equivocators at most F
-- it is the definition's.
use mathlib.Core.Bool.{Bool}
use mathlib.Core.Path.{◌≡◌, refl, sym, ap, subst, ◌∙◌}
use mathlib.Core.Logic.{⊎_elim}
use Prim.Native.Nat.{ℕ, ◌≤◌, ◌<◌}
use native.Mathlib.Omega.{arith}
use lib.Dec.{T, le→leb, not_T}
use borrow.Author.Tests.{le-leb}
use Rattle.grandpa.specs.Weight.{fault, threshold}
use Rattle.grandpa.specs.Tree.{below, child}
use Rattle.grandpa.specs.Vote as meant
use Rattle.grandpa.specs.Vote.{Vote, silent, once, twice, total, equivocators}
use Rattle.grandpa.specs.Answers.{Says, Ghost, ghost_of}
use Rattle.grandpa.specs.Time.{Placed, VotesPlaced}
use Rattle.grandpa.proofs.Trees.{below_refl, below_trans}
use Rattle.grandpa.proofs.Votes.{base_weight}
use Rattle.grandpa.proofs.Answers.{ghost_says, ghost_unique}
use Rattle.context.specs.declared.Phase.{Phase}
use Rattle.context.specs.declared.Phase.TheVariants.{Prevote, Precommit}
use Rattle.context.specs.Votes.{bit}
use Rattle.graph.specs.Graph.{tally}
use Rattle.graph.specs.Shape.{Targets}
use Rattle.graph.specs.Ghost.{find_ghost}
use Rattle.graph.proofs.Ghosts.{ghost_ends, ghost_none}
use Rattle.graph.proofs.Meaning.{ghost_meant}
use Rattle.nodes.specs.Nodes.{col, flag, passes}
use Rattle.nodes.specs.Columns.{view}
use Rattle.vote_search.proofs.Questions.{passes_mono}
use Rattle.answers.specs.Update.{weighty, start_of, phase_ghost}
use Rattle.answer_laws.specs.Faithful.{Setting, table, voters, votes, scene_of, heard_in, Faithful, Within, FoundWithin}
use Rattle.answer_laws.proofs.Weighed.{threshold_is, weighty_is}
use Rattle.answer_laws.proofs.Searched.{Ends, tabled_in}
use Rattle.std.specs.Prelude.{Option, Some, None}

module _ (k : Setting) (f : Faithful k) where
  abbrev up : ℕ → ℕ
  up = col k.parents

  -- the base and a stored block are in the graph
  pub start_within : (o : Option ℕ) → FoundWithin k o → Within k (start_of o k.base)
  start_within None w =
      record {
        in_base = below_refl up f.tabled.falls k.base;
        node = k.base;
        is_node = f.shape.nodes.base_used;
        under = below_refl up f.tabled.falls k.base;
      }
  start_within (Some b) w = w

  module _ (phase : Phase) where
    abbrev heavy : ℕ → Bool
    heavy b = meant.weighty (voters k) up (votes k phase) b

    heard_is : heard_in phase k.heard ≡ meant.heard (voters k) (votes k phase)
    heard_is = go phase
      where
        go : (p : Phase) → heard_in p k.heard ≡ meant.heard (voters k) (votes k p)
        go Prevote = f.prevotes_heard
        go Precommit = f.precommits_heard

    -- first targets are in the table, at or below the base
    pub votes_placed : VotesPlaced (voters k) (table k) k.base (votes k phase)
    votes_placed i h = go (votes k phase i) refl
      where
        at : (x : ℕ) → Targets (votes k phase i) x → (x < k.count) × T (below up k.base x)
        at x t = let u = f.shape.voted.target_used (bit phase i) x t in (f.shape.nodes.tabled x u, f.shape.nodes.inside x u)

        go : (v : Vote) → votes k phase i ≡ v → Placed (table k) k.base v
        go silent e = tt
        go (once x) e = at x (subst (λ (y : Vote). Targets y x) (sym e) refl)
        go (twice x) e = at x (subst (λ (y : Vote). Targets y x) (sym e) refl)

    -- once heard weight reaches T the base has it
    pub base_heavy : k.set.threshold ≤ heard_in phase k.heard → T (meant.weighty (voters k) (col k.parents) (votes k phase) k.base)
    base_heavy h =
        le→leb (threshold (total (voters k))) (meant.phase_weight (voters k) up (votes k phase) k.base)
        (omega (arith, base_weight (voters k) (table k) k.base (votes k phase) votes_placed, threshold_is k f, heard_is))

    -- where the search of a phase ends
    pub record Settles (b r : ℕ) : Type 0 where
      pub within : Within k r
      pub lower : T (below (col k.parents) b r)
      pub enough : T (meant.weighty (voters k) (col k.parents) (votes k phase) r)
      pub childless : (c y : ℕ) → T (child (col k.parents) r c) → T (flag k.graph.used y) → T (below (col k.parents) c y)
          → T (meant.weighty (voters k) (col k.parents) (votes k phase) c) → ⊥

    settles : (b r : ℕ) → Within k b → Ends k f (weighty (scene_of k) phase) b r → Settles b r
    settles b r w e =
        let node : (y : ℕ) × T (flag k.graph.used y) × T (below up r y)
        = ⊎_elim (λ q. (w.node, w.is_node, subst (λ (z : ℕ). T (below up z w.node)) (sym q) w.under)) (λ y. y) e.noded in
        record {
          within =
              record {
                in_base = below_trans up f.tabled.falls k.base b r w.in_base e.lower;
                node = node.0;
                is_node = node.1;
                under = node.2;
              };
          lower = e.lower;
          enough = subst T (weighty_is k f phase r) e.passes;
          childless = λ c y p u l t. e.childless c y p u l (subst T (sym (weighty_is k f phase c)) t);
        }

    -- with equivocators at most F, the definition's
    pub settles_meant : 0 < total (voters k) → equivocators (voters k) (votes k phase) ≤ fault (total (voters k))
        → k.set.threshold ≤ heard_in phase k.heard → (b r : ℕ) → Settles b r → ghost_of (voters k) (table k) (votes k phase) ≡ Some r
    settles_meant some_weight few h b r e = go (ghost_of (voters k) (table k) (votes k phase)) (ghost_says (voters k) (table k) (votes k phase))
      where
        meaning : Ghost (voters k) (table k) (votes k phase) r
        meaning =
            ghost_meant (voters k) (table k) f.tabled some_weight (votes k phase) few (flag k.graph.used)
            (λ i x l a. f.shape.voted.target_used (bit phase i) x a) r (omega (arith, threshold_is k f, heard_is))
            (tabled_in k f r e.within) e.enough e.childless

        go : (o : Option ℕ) → Says (Ghost (voters k) (table k) (votes k phase)) o → o ≡ Some r
        go None n = absurd (n r meaning)
        go (Some x) p = ap Some (ghost_unique (voters k) (table k) f.tabled some_weight (votes k phase) few x r p meaning)

    module _ (o : Option ℕ) (w : FoundWithin k o) where
      abbrev start : ℕ
      start = start_of o k.base

      goes : k.set.threshold ≤ heard_in phase k.heard → (r : Option ℕ)
          → find_ghost up (view k.graph) (passes k.set.weights (weighty (scene_of k) phase)) (start_of o k.base) ≡ r
          → phase_ghost (scene_of k) phase (heard_in phase k.heard) o ≡ r
      unfolding phase_ghost
      goes h r e = rw (le-leb k.set.threshold (heard_in phase k.heard) h) e

      -- from a start of weight T or more
      pub ghost_goes : k.set.threshold ≤ heard_in phase k.heard
          → T (meant.weighty (voters k) (col k.parents) (votes k phase) (start_of o k.base))
          → (r : ℕ) × (phase_ghost (scene_of k) phase (heard_in phase k.heard) o ≡ Some r) × Settles (start_of o k.base) r
      ghost_goes h t =
          let b = start_within o w in
          let r = ghost_ends up (col k.ids) f.tabled.falls k.base k.count k.cast (view k.graph) f.shape
          (passes k.set.weights (weighty (scene_of k) phase)) (passes_mono k.set.weights (weighty (scene_of k) phase)) f.small
          start b.in_base (tabled_in k f start b) (subst T (sym (weighty_is k f phase start)) t) in
          (r.0, goes h (Some r.0) r.1, settles start r.0 b r.2)

      -- from a start of less weight
      pub ghost_lost : k.set.threshold ≤ heard_in phase k.heard
          → (T (meant.weighty (voters k) (col k.parents) (votes k phase) (start_of o k.base)) → ⊥)
          → phase_ghost (scene_of k) phase (heard_in phase k.heard) o ≡ None
      ghost_lost h t =
          goes h None (ghost_none up (col k.ids) f.tabled.falls k.base k.count k.cast (view k.graph) f.shape
          (passes k.set.weights (weighty (scene_of k) phase)) (passes_mono k.set.weights (weighty (scene_of k) phase)) f.small
          start (not_T (passes k.set.weights (weighty (scene_of k) phase) (tally up (view k.graph) start)) (λ q. t (subst T (weighty_is k f phase start) q))))

      -- with equivocators at most F, the definition's
      pub ghost_is : 0 < total (voters k) → equivocators (voters k) (votes k phase) ≤ fault (total (voters k))
          → k.set.threshold ≤ heard_in phase k.heard
          → T (meant.weighty (voters k) (col k.parents) (votes k phase) (start_of o k.base))
          → phase_ghost (scene_of k) phase (heard_in phase k.heard) o ≡ (ghost_of (voters k) (table k) (votes k phase))
      ghost_is some_weight few h t =
          let r = ghost_goes h t in
          r.1 ∙ (sym (settles_meant some_weight few h start r.0 r.2))
