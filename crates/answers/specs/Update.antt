-- `update` of round.rs and its two GHOSTs, as steps. Document 01, "How a vote is taken": the prevote-GHOST is worked out again in a
-- prevote import only, starting from the stored one; "The four answers": `precommit_ghost` keeps its own stored block.
use Rattle.std.specs.Prelude.{Bool, true, false, cond, not, ◌||◌, List, ℕ, T, eqb, leb, Option, Some, None}
use Rattle.grandpa.specs.Tree.{below}
use Rattle.grandpa.specs.Possible.{asked}
use Rattle.context.specs.declared.Phase.{Phase}
use Rattle.context.specs.declared.Phase.TheVariants.{Prevote, Precommit}
use Rattle.context.specs.Votes.{voted, weight_of}
use Rattle.graph.specs.Graph.{Graph}
use Rattle.graph.specs.Ghost.{find_ancestor, descend, find_ghost}
use Rattle.nodes.specs.Nodes.{col, AtLeast, Possible, Question, passes}
use Rattle.nodes.specs.Columns.{Columns, Sound, view}
use Rattle.answers.specs.declared.Answers.{Answers}
use Rattle.answers.specs.declared.Heard.{Heard}

-- nothing is heard, and nothing stored
abbrev pub no_heard : Heard
no_heard = record { prevote = 0; precommit = 0 }

abbrev pub no_answers : Answers
no_answers = record { prevote = None; precommit = None; finalized = None; estimate = None; completable = false }

-- w is heard in a phase
abbrev pub heard_as : Phase → ℕ → Heard → Heard
heard_as Prevote w h = record { prevote = w; precommit = h.precommit }
heard_as Precommit w h = record { prevote = h.prevote; precommit = w }

-- what both phases' searches go by
pub record Scene : Type 0 where
  pub parents : List ℕ
  pub base : ℕ
  pub weights : List ℕ
  pub threshold : ℕ
  pub graph : Columns
  pub equivocations : List ℕ

-- the two questions: phase weight at least T; possible, of the total and the precommit weight heard
abbrev pub weighty : Scene → Phase → Question
weighty s phase = record { phase = phase; condition = AtLeast s.threshold; equivocations = s.equivocations }

abbrev pub still : Scene → ℕ → ℕ → Question
still s total c =
    record {
      phase = Precommit;
      condition = Possible (asked total s.threshold c (weight_of s.weights (voted s.equivocations Precommit)));
      equivocations = s.equivocations;
    }

abbrev pub ghost_from : List ℕ → List ℕ → Columns → Question → ℕ → Option ℕ
ghost_from parents weights graph q b = (find_ghost (col parents) (view graph) (passes weights q) b)

abbrev pub ancestor_from : Scene → Question → ℕ → Option ℕ
ancestor_from s q b = (find_ancestor (col s.parents) (view s.graph) s.base (passes s.weights q) b)

abbrev pub start_of : Option ℕ → ℕ → ℕ
start_of (Some b) base = b
start_of None base = base

-- the GHOST of a phase: from the stored one, or the base, once heard weight reaches T
unfoldable pub phase_ghost : Scene → Phase → ℕ → Option ℕ → Option ℕ
phase_ghost s phase heard stored =
    cond (leb s.threshold heard) (ghost_from s.parents s.weights s.graph (weighty s phase) (start_of stored s.base)) stored

abbrev pub with_prevote : Answers → Option ℕ → Answers
with_prevote a g =
    record { prevote = g; precommit = a.precommit; finalized = a.finalized; estimate = a.estimate; completable = a.completable }

abbrev pub with_precommit : Answers → Option ℕ → Answers
with_precommit a g =
    record { prevote = a.prevote; precommit = g; finalized = a.finalized; estimate = a.estimate; completable = a.completable }

-- a prevote import works the prevote-GHOST out again
abbrev pub with_ghost : Scene → Heard → Phase → Answers → Answers
with_ghost s heard Prevote a = with_prevote a (phase_ghost s Prevote heard.prevote a.prevote)
with_ghost s heard Precommit a = a

-- nothing possible strictly below g: the estimate is not g, or the search from g ends there
abbrev pub ends_at : ℕ → Option ℕ → Bool
ends_at g (Some x) = eqb x g
ends_at g None = true

abbrev pub settled : List ℕ → List ℕ → Columns → Question → ℕ → Option ℕ → Bool
settled parents weights graph q g (Some e) = not (eqb e g) || ends_at g (ghost_from parents weights graph q e)
settled parents weights graph q g None = false

-- the same of an estimate that passes: the search is not asked whether its start does. `settled_untested` says so.
abbrev pub untested : List ℕ → Graph → (List ℕ → Bool) → ℕ → Option ℕ → Bool
untested parents graph ok g (Some e) = not (eqb e g) || eqb (descend (col parents) graph ok e) g
untested parents graph ok g None = false

-- heard precommit weight below T: the estimate is g
abbrev pub waiting : Answers → ℕ → Answers
waiting a g =
    record { prevote = a.prevote; precommit = a.precommit; finalized = a.finalized; estimate = Some g; completable = a.completable }

abbrev pub reached : Scene → ℕ → ℕ → Answers → ℕ → Answers
reached s total c a g =
    let e = ancestor_from s (still s total c) g in
    record {
      prevote = a.prevote;
      precommit = a.precommit;
      finalized = ancestor_from s (weighty s Precommit) g;
      estimate = e;
      completable = settled s.parents s.weights s.graph (still s total c) g e;
    }

abbrev pub from_ghost : Scene → ℕ → ℕ → Answers → Option ℕ → Answers
from_ghost s total c a None = a
from_ghost s total c a (Some g) = cond (leb s.threshold c) (reached s total c a g) (waiting a g)

-- `update`, from the stored prevote-GHOST
unfoldable pub update : Scene → ℕ → Heard → Answers → Answers
update s total heard a =
    cond (leb s.threshold heard.prevote) (from_ghost s total heard.precommit a a.prevote) a

-- the answers after a vote in a phase was recorded
abbrev pub told_after : Scene → ℕ → Heard → Phase → Answers → Answers
told_after s total heard phase a = update s total heard (with_ghost s heard phase a)

-- a stored block lies at or below the base
abbrev pub InBase : List ℕ → ℕ → Option ℕ → Type 0
InBase parents base None = Unit {0}
InBase parents base (Some b) = T (below (col parents) base b)

-- columns that keep the shape rules of a vote graph, on some table
pub record Grounded (parents : List ℕ) (base : ℕ) (graph : Columns) : Type 0 where
  pub ids : List ℕ
  pub count : ℕ
  pub sound : Sound parents ids base count graph

-- the scene as the code is lent it
abbrev pub scene : List ℕ → ℕ → List ℕ → ℕ → Columns → List ℕ → Scene
scene parents base weights threshold graph equivocations =
    record { parents = parents; base = base; weights = weights; threshold = threshold; graph = graph; equivocations = equivocations }
