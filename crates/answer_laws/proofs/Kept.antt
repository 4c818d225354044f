-- The steps keep stored blocks in the table and at or below the base.
use mathlib.Core.Bool.{Bool, not, ◌&&◌}
use mathlib.Core.List.{List}
use mathlib.Core.Path.{sym, subst}
use Prim.Native.Nat.{ℕ, ◌≤◌, ◌<◌}
use native.Mathlib.Omega.{arith}
use lib.Dec.{T, leb, not_T}
use Rattle.sizes.specs.Sizes.{BLOCKS}
use Rattle.loops.proofs.Tests.{by_test, dec_T}
use Rattle.grandpa.specs.Tree.{below}
use Rattle.grandpa.specs.Vote.{Vote}
use Rattle.grandpa.specs.Answers.{First, Says, first_of}
use Rattle.grandpa.proofs.Trees.{below_refl, below_trans, below_le}
use Rattle.grandpa.proofs.Searches.{first_says}
use Rattle.context.specs.declared.Phase.{Phase}
use Rattle.context.specs.declared.Phase.TheVariants.{Prevote, Precommit}
use Rattle.graph.specs.Search.{containing}
use Rattle.graph.specs.Graph.{tally}
use Rattle.graph.specs.Ghost.{is_nil, find_ancestor}
use Rattle.graph.specs.Shape.{Shape}
use Rattle.graph.proofs.Ghosts.{ghost_ends, ghost_none}
use Rattle.nodes.specs.Nodes.{col, Question, passes, Falls}
use Rattle.nodes.specs.Columns.{view}
use Rattle.vote_search.proofs.Questions.{passes_mono}
use Rattle.answers.specs.declared.Answers.{Answers}
use Rattle.answers.specs.declared.Heard.{Heard}
use Rattle.answers.specs.Update.{Scene, InBase, weighty, still, start_of, ghost_from, ancestor_from, phase_ghost, with_ghost, waiting, reached, from_ghost, update, told_after}
use Rattle.answer_laws.specs.Seats.{Seated, AllSeated}
use Rattle.std.specs.Prelude.{Option, Some, None}

-- what the searches ask of a stored block
pub seated_in : (parents : List ℕ) (base count : ℕ) (o : Option ℕ) → Seated parents base count o → InBase parents base o
seated_in parents base count None h = tt
seated_in parents base count (Some b) h = h.1

module _ (s : Scene) (ids : List ℕ) (count : ℕ) (cast : ℕ → Vote) (falls : Falls s.parents)
    (shape : Shape (col s.parents) (col ids) s.base count cast (view s.graph)) (small : count ≤ BLOCKS) where
  abbrev up : ℕ → ℕ
  up = col s.parents

  abbrev Seat : Option ℕ → Type 0
  Seat o = Seated s.parents s.base count o

  abbrev Seats : Answers → Type 0
  Seats a = AllSeated s.parents s.base count a

  -- a search starts in the table, at or below the base
  start_seated : (o : Option ℕ) → Seat o → (start_of o s.base < count) × T (below up s.base (start_of o s.base))
  start_seated None h = (shape.nodes.tabled s.base shape.nodes.base_used, below_refl up falls s.base)
  start_seated (Some b) h = h

  ghost_seated : (q : Question) (b : ℕ) → b < count → T (below up s.base b) → Seat (ghost_from s.parents s.weights s.graph q b)
  ghost_seated q b h l = go (dec_T (ok (tally up (view s.graph) b)))
    where
      ok : List ℕ → Bool
      ok = passes s.weights q

      go : Dec (T (ok (tally up (view s.graph) b))) → Seat (ghost_from s.parents s.weights s.graph q b)
      go (yes t) =
          let r = ghost_ends up (col ids) falls s.base count cast (view s.graph) shape ok (passes_mono s.weights q) small b l h t in
          subst (λ (o : Option ℕ). Seat o) (sym r.1) (r.2.tabled, below_trans up falls s.base b r.0 l r.2.lower)
      go (no t) =
          subst (λ (o : Option ℕ). Seat o)
          (sym (ghost_none up (col ids) falls s.base count cast (view s.graph) shape ok (passes_mono s.weights q) small b (not_T (ok (tally up (view s.graph) b)) t))) tt

  ancestor_seated : (q : Question) (b : ℕ) → b < count → T (below up s.base b) → Seat (ancestor_from s q b)
  unfolding find_ancestor
  ancestor_seated q b h l =
      by_test (λ (o : Option ℕ). Seat o) (not ((view s.graph).used b) && is_nil (containing up (view s.graph).used (view s.graph).heads b)) None
      (first_of up (λ x. passes s.weights q (tally up (view s.graph) x)) s.base b) (λ t. tt)
      (λ t. go (first_of up (λ x. passes s.weights q (tally up (view s.graph) x)) s.base b) (first_says up falls s.base _ b l))
    where
      go : (o : Option ℕ) → Says (First up (λ x. passes s.weights q (tally up (view s.graph) x)) s.base b) o → Seat o
      go None r = tt
      go (Some x) r = (omega (arith, below_le up falls x b r.above), r.inside)

  -- the GHOST of a phase
  pub phase_seated : (phase : Phase) (heard : ℕ) (o : Option ℕ) → Seated s.parents s.base count o
      → Seated s.parents s.base count (phase_ghost s phase heard o)
  unfolding phase_ghost
  phase_seated phase heard o h =
      by_test Seat (leb s.threshold heard) _ o
      (λ t. let b = start_seated o h in ghost_seated (weighty s phase) (start_of o s.base) b.0 b.1)
      (λ t. h)

  pub with_seated : (heard : Heard) (phase : Phase) (a : Answers) → AllSeated s.parents s.base count a
      → AllSeated s.parents s.base count (with_ghost s heard phase a)
  with_seated heard Prevote a h =
      record {
        prevote = phase_seated Prevote heard.prevote a.prevote h.prevote;
        precommit = h.precommit;
        finalized = h.finalized;
        estimate = h.estimate;
      }
  with_seated heard Precommit a h = h

  from_seated : (total c : ℕ) (a : Answers) → Seats a → (o : Option ℕ) → Seat o → Seats (from_ghost s total c a o)
  from_seated total c a h None w = h
  from_seated total c a h (Some g) w =
      by_test Seats (leb s.threshold c) (reached s total c a g) (waiting a g)
      (λ t. record {
        prevote = h.prevote;
        precommit = h.precommit;
        finalized = ancestor_seated (weighty s Precommit) g w.0 w.1;
        estimate = ancestor_seated (still s total c) g w.0 w.1;
      })
      (λ t. record { prevote = h.prevote; precommit = h.precommit; finalized = h.finalized; estimate = w })

  pub update_seated : (total : ℕ) (heard : Heard) (a : Answers) → AllSeated s.parents s.base count a
      → AllSeated s.parents s.base count (update s total heard a)
  unfolding update
  update_seated total heard a h =
      by_test Seats (leb s.threshold heard.prevote) (from_ghost s total heard.precommit a a.prevote) a
      (λ t. from_seated total heard.precommit a h a.prevote h.prevote) (λ t. h)

  pub told_seated : (total : ℕ) (heard : Heard) (phase : Phase) (a : Answers) → AllSeated s.parents s.base count a
      → AllSeated s.parents s.base count (told_after s total heard phase a)
  told_seated total heard phase a h = update_seated total heard _ (with_seated heard phase a h)
