-- One law for each way through a step, and where the searches may start.
use mathlib.Core.Bool.{Bool, true, false, not, ◌&&◌}
use mathlib.Core.List.{List}
use mathlib.Core.Path.{◌≡◌, refl, sym, ap, subst, ◌∙◌}
use mathlib.Core.Logic.{◌≢◌}
use Prim.Native.Nat.{ℕ, ◌≤◌, ◌<◌}
use lib.Dec.{T, eqb}
use borrow.Author.Tests.{le-leb, lt-leb, eq-eqb, ne_eqb}
use Rattle.loops.proofs.Tests.{by_test, true_T}
use Rattle.grandpa.specs.Tree.{below}
use Rattle.grandpa.specs.Answers.{First, Says, first_of}
use Rattle.grandpa.proofs.Trees.{below_refl}
use Rattle.grandpa.proofs.Searches.{first_says}
use Rattle.grandpa.specs.declared.PossibleToPrecommit.{PossibleToPrecommit}
use Rattle.grandpa.specs.Possible.{asked}
use Rattle.context.specs.Votes.{voted, weight_of}
use Rattle.context.specs.declared.Phase.{Phase}
use Rattle.context.specs.declared.Phase.TheVariants.{Prevote, Precommit}
use Rattle.graph.specs.Graph.{Graph, tally}
use Rattle.graph.specs.Search.{containing}
use Rattle.graph.specs.Ghost.{is_nil, find_ancestor, descend}
use Rattle.nodes.specs.Nodes.{col, AtLeast, Possible, Question, passes, Falls}
use Rattle.nodes.specs.Columns.{Columns, view}
use Rattle.vote_search.specs.declared.Both.{Both}
use Rattle.vote_search.specs.Searches.{Stands, unlisted, unheaded, of_precommits, both}
use Rattle.vote_search.proofs.Ancestors.{ancestor_unlisted}
use Rattle.vote_search.proofs.Descents as search
use Rattle.answers.specs.declared.Answers.{Answers}
use Rattle.answers.specs.declared.Heard.{Heard}
use Rattle.answers.specs.Update.{Scene, Grounded, InBase, start_of, ghost_from, ancestor_from, weighty, phase_ghost, with_prevote, with_ghost, settled, untested, waiting, reached, update}
use Rattle.std.specs.Prelude.{Option, Some, None}

-- a search starts at or below the base
pub start_in : (parents : List ℕ) (base : ℕ) (graph : Columns) → Grounded parents base graph → (o : Option ℕ) → InBase parents base o
    → T (below (col parents) base (start_of o base))
start_in parents base graph g (Some b) h = h
start_in parents base graph g None h = below_refl (col parents) g.sound.parents_fall base

pub stands : (parents : List ℕ) (base : ℕ) (graph : Columns) → Grounded parents base graph → (b : ℕ) → T (below (col parents) base b)
    → Stands parents base graph b
stands parents base graph g b h = record { ids = g.ids; count = g.count; sound = g.sound; in_base = h }

-- a block told is one stored
pub told_in : (parents : List ℕ) (base : ℕ) (o : Option ℕ) → InBase parents base o → (b : ℕ) → o ≡ Some b → T (below (col parents) base b)
told_in parents base o h b e = subst (InBase parents base) e h

-- the search towards the base ends at the first block that passes
ancestor_first : (parents : List ℕ) → Falls parents → (g : Graph) (base : ℕ) (ok : List ℕ → Bool) (b : ℕ) → T (below (col parents) base b)
    → (P : Option ℕ → Type 0) → P None → ((e : ℕ) → First (col parents) (λ x. ok (tally (col parents) g x)) base b e → P (Some e))
    → P ((find_ancestor (col parents) g base ok b))
unfolding find_ancestor
ancestor_first parents falls g base ok b h P n p =
    by_test (λ (o : Option ℕ). P o) (not (g.used b) && is_nil (containing (col parents) g.used g.heads b)) None
    (first_of (col parents) (λ x. ok (tally (col parents) g x)) base b) (λ t. n)
    (λ t. go (first_of (col parents) (λ x. ok (tally (col parents) g x)) base b) (first_says (col parents) falls base _ b h))
  where
    go : (o : Option ℕ) → Says (First (col parents) (λ x. ok (tally (col parents) g x)) base b) o → P o
    go None r = n
    go (Some x) r = p x r

-- the GHOST of a phase
module _ (s : Scene) (phase : Phase) (heard : ℕ) (stored : Option ℕ) where
  pub phase_stays : heard < s.threshold → stored ≡ phase_ghost s phase heard stored
  unfolding phase_ghost
  phase_stays h = rw (lt-leb s.threshold heard h)

  pub phase_goes : s.threshold ≤ heard → (b : ℕ) → b ≡ start_of stored s.base → (r : Option ℕ)
      → r ≡ ghost_from s.parents s.weights s.graph (weighty s phase) b → r ≡ phase_ghost s phase heard stored
  unfolding phase_ghost
  phase_goes h b e r q = rw (le-leb s.threshold heard h, ← e) q

-- what is settled, of an estimate that passes
module _ (parents : List ℕ) (ok : List ℕ → Bool) (g : ℕ) where
  pub untested_none : (graph : Graph) (o : Option ℕ) → o ≡ None → false ≡ untested parents graph ok g o
  untested_none graph o e = rw e

  pub untested_other : (graph : Graph) (o : Option ℕ) (e : ℕ) → o ≡ Some e → e ≢ g → true ≡ untested parents graph ok g o
  untested_other graph o e p d = rw (p, ne_eqb e g d)

  pub untested_end : (graph : Graph) (o : Option ℕ) (e : ℕ) → o ≡ Some e → e ≡ g → (r : ℕ) → r ≡ descend (col parents) graph ok e
      → eqb r g ≡ untested parents graph ok g o
  untested_end graph o e p d r k = rw (p, eq-eqb e g d, k)

module _ (parents weights : List ℕ) (q : Question) (g : ℕ) where
  abbrev Passing : Columns → Option ℕ → Type 0
  Passing graph None = Unit {0}
  Passing graph (Some b) = T (passes weights q (tally (col parents) (view graph) b))

  settled_untested : (base : ℕ) (graph : Columns) → Grounded parents base graph → (o : Option ℕ) → Passing graph o
      → untested parents (unheaded graph.used graph.rows graph.order graph.listed) (passes weights q) g o ≡ settled parents weights graph q g o
  settled_untested base graph ground None t = refl
  settled_untested base graph ground (Some e) t =
      rw (search.ghost_from parents ground.ids base ground.count graph ground.sound (passes weights q) e (true_T _ t) _ refl)

-- the two searches towards the base as the code makes them, which are not lent the listing
module _ (s : Scene) (ground : Grounded s.parents s.base s.graph) (p : PossibleToPrecommit) (g : ℕ) (r : Both) where
  abbrev pub Sought : Type 0
  Sought =
      r ≡ both (col s.parents) (unlisted s.graph.used s.graph.rows s.graph.heads s.graph.tips) s.base s.weights s.equivocations p g

  ancestor_seen : (q : Question) (r : Option ℕ)
      → r ≡ (find_ancestor (col s.parents) (unlisted s.graph.used s.graph.rows s.graph.heads s.graph.tips) s.base (passes s.weights q) g)
      → r ≡ ancestor_from s q g
  ancestor_seen q r e =
      e ∙ (ancestor_unlisted s.parents ground.ids s.base ground.count s.graph ground.sound (passes s.weights q) g)

  weighty_sought : Sought → r.weighty ≡ ancestor_from s (of_precommits s.equivocations (AtLeast p.threshold)) g
  unfolding both
  weighty_sought e = ancestor_seen _ _ (ap (λ (x : Both). x.weighty) e)

  possible_sought : Sought → r.possible ≡ ancestor_from s (of_precommits s.equivocations (Possible p)) g
  unfolding both
  possible_sought e = ancestor_seen _ _ (ap (λ (x : Both). x.possible) e)

  -- what is possible lies at or below the base, and passes
  module _ (h : T (below (col s.parents) s.base g)) (e : Sought) where
    possible_told : (P : Option ℕ → Type 0) → P None
        → ((x : ℕ) → First (col s.parents) (λ b. passes s.weights (of_precommits s.equivocations (Possible p)) (tally (col s.parents) (view s.graph) b)) s.base g x → P (Some x))
        → P r.possible
    possible_told P n f = rw (possible_sought e) (ancestor_first s.parents ground.sound.parents_fall (view s.graph) s.base _ g h P n f)

    pub possible_in : InBase s.parents s.base r.possible
    possible_in = possible_told (InBase s.parents s.base) tt (λ x f. f.inside)

    possible_settled : (z : Bool)
        → z ≡ untested s.parents (unheaded s.graph.used s.graph.rows s.graph.order s.graph.listed) (passes s.weights (of_precommits s.equivocations (Possible p))) g r.possible
        → z ≡ settled s.parents s.weights s.graph (of_precommits s.equivocations (Possible p)) g r.possible
    possible_settled z q =
        q ∙ settled_untested s.parents s.weights (of_precommits s.equivocations (Possible p)) g s.base s.graph ground r.possible
        (possible_told (Passing s.parents s.weights (of_precommits s.equivocations (Possible p)) g s.graph) tt (λ x f. f.passes))

-- the prevote-GHOST in an import
module _ (s : Scene) (heard : Heard) (phase : Phase) (a : Answers) where
  pub ghost_anew : phase ≡ Prevote → (r : Option ℕ) → r ≡ phase_ghost s Prevote heard.prevote a.prevote → with_prevote a r ≡ with_ghost s heard phase a
  ghost_anew e r q = rw (e, q)

  pub ghost_kept : phase ≡ Precommit → a ≡ with_ghost s heard phase a
  ghost_kept e = rw e

-- `update`
module _ (s : Scene) (total : ℕ) (heard : Heard) (a : Answers) where
  pub update_early : heard.prevote < s.threshold → a ≡ update s total heard a
  unfolding update
  update_early h = rw (lt-leb s.threshold heard.prevote h)

  module _ (h : s.threshold ≤ heard.prevote) where
    pub update_none : a.prevote ≡ None → a ≡ update s total heard a
    unfolding update
    update_none e = rw (le-leb s.threshold heard.prevote h, e)

    module _ (g : ℕ) (e : a.prevote ≡ Some g) where
      pub update_waits : heard.precommit < s.threshold → waiting a g ≡ update s total heard a
      unfolding update
      update_waits k = rw (le-leb s.threshold heard.prevote h, e, lt-leb s.threshold heard.precommit k)

      pub update_goes : s.threshold ≤ heard.precommit → reached s total heard.precommit a g ≡ update s total heard a
      unfolding update
      update_goes k = rw (le-leb s.threshold heard.prevote h, e, le-leb s.threshold heard.precommit k)

      -- the same as the code finds it
      pub update_waiting : heard.precommit < s.threshold → waiting (with_prevote a (Some g)) g ≡ update s total heard a
      update_waiting k = ap (λ (o : Option ℕ). waiting (with_prevote a o) g) (sym e) ∙ update_waits k

      pub update_reached : (ground : Grounded s.parents s.base s.graph) → T (below (col s.parents) s.base g)
          → s.threshold ≤ heard.precommit
          → (w : ℕ) (p : PossibleToPrecommit) → w ≡ weight_of s.weights (voted s.equivocations Precommit)
          → p ≡ asked total s.threshold heard.precommit w → (r : Both) → Sought s ground p g r → (z : Bool)
          → z ≡ untested s.parents (unheaded s.graph.used s.graph.rows s.graph.order s.graph.listed) (passes s.weights (of_precommits s.equivocations (Possible p))) g r.possible
          → record { prevote = Some g; precommit = a.precommit; finalized = r.weighty; estimate = r.possible; completable = z } ≡ update s total heard a
      update_reached ground i k w p u v r q z pz =
          ap (λ (o : Option ℕ). made o r.weighty r.possible z) (sym e)
          ∙ rw (possible_settled s ground p g r i q z pz, possible_sought s ground p g r q, weighty_sought s ground p g r q, v, u) (update_goes k)
        where
          made : Option ℕ → Option ℕ → Option ℕ → Bool → Answers
          made o f x z = record { prevote = o; precommit = a.precommit; finalized = f; estimate = x; completable = z }
