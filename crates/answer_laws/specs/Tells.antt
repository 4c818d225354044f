-- Document 01, "The four answers": what is stored in a state reached by calls, and what an import changes.
use Rattle.std.specs.Prelude.{cond, List, ◌≡◌, ◌≢◌, ℕ, ◌+◌, ◌≤◌, ◌<◌, T, eqb, get_or, Option, Some, None}
use Rattle.grandpa.specs.Weight.{fault, threshold}
use Rattle.grandpa.specs.Vote.{Vote, twice, total, heard, equivocators, weighty}
use Rattle.grandpa.specs.Answers.{ghost_of, told_from}
use Rattle.grandpa.specs.Time.{Later}
use Rattle.bitfield.specs.Bits.{put}
use Rattle.context.specs.declared.Phase.{Phase}
use Rattle.context.specs.declared.Phase.TheVariants.{Prevote, Precommit}
use Rattle.context.specs.Votes.{bit}
use Rattle.graph.specs.Shape.{with_vote}
use Rattle.nodes.specs.Nodes.{col, flag}
use Rattle.nodes.specs.Columns.{Columns}
use Rattle.vote_insert.specs.Insert.{inserted}
use Rattle.answers.specs.declared.Answers.{Answers}
use Rattle.answers.specs.declared.Heard.{Heard}
use Rattle.answers.specs.Update.{heard_as}
use Rattle.answer_laws.specs.Faithful.{Setting, table, voters, votes, AllWithin, stored}

-- prevote weight T or more
abbrev pub Heavy : Setting → Option ℕ → Type 0
Heavy k None = Unit {0}
Heavy k (Some g) = T (weighty (voters k) (col k.parents) (votes k Prevote) g)

-- the four answers for a prevote-GHOST o, which there is once heard prevote weight reaches T, and which is the definition's
-- while prevote equivocators are at most F
pub record Tells (k : Setting) (o : Option ℕ) (a : Answers) : Type 0 where
  pub within : AllWithin k o
  pub heavy : Heavy k o
  pub found : threshold (total (voters k)) ≤ heard (voters k) (votes k Prevote) → o ≢ None
  pub meant : 0 < total (voters k) → equivocators (voters k) (votes k Prevote) ≤ fault (total (voters k))
      → o ≡ ghost_of (voters k) (table k) (votes k Prevote)
  pub told : a ≡ stored a.precommit (told_from (voters k) (table k) k.base (votes k Prevote) (votes k Precommit) o)

-- an import changes the graph, the equivocators, heard weights and what is recorded
abbrev pub after : Setting → Columns → List ℕ → Heard → (ℕ → Vote) → Setting
after k graph equivocations heard cast =
    record {
      set = k.set;
      parents = k.parents;
      ids = k.ids;
      numbers = k.numbers;
      count = k.count;
      base = k.base;
      graph = graph;
      equivocations = equivocations;
      heard = heard;
      cast = cast;
    }

-- no node goes, and votes come as they may
pub record Follows (k : Setting) (graph : Columns) (cast : ℕ → Vote) : Type 0 where
  pub nodes_stay : (x : ℕ) → T (flag k.graph.used x) → T (flag graph.used x)
  pub later : (j : ℕ) → Later (k.cast j) (cast j)

-- blocks that are added change the table
abbrev pub extended : Setting → List ℕ → List ℕ → List ℕ → ℕ → Setting
extended k parents ids numbers count =
    record {
      set = k.set;
      parents = parents;
      ids = ids;
      numbers = numbers;
      count = count;
      base = k.base;
      graph = k.graph;
      equivocations = k.equivocations;
      heard = k.heard;
      cast = k.cast;
    }

-- a voter's weight is heard in a phase
abbrev pub louder : Phase → ℕ → Heard → Heard
louder Prevote w h = heard_as Prevote (h.prevote + w) h
louder Precommit w h = heard_as Precommit (h.precommit + w) h

-- the second vote of bit j, whose first was for t
abbrev pub with_second : (ℕ → Vote) → ℕ → ℕ → ℕ → Vote
with_second cast j t i = cond (eqb i j) (twice t) (cast i)

-- a first vote, of the voter at place p for block t
abbrev pub first_vote : Setting → Phase → ℕ → ℕ → Setting
first_vote k phase p t =
    after k (inserted k.parents k.ids k.base t (bit phase p) k.graph) k.equivocations
    (louder phase (get_or k.set.weights p 0) k.heard) (with_vote k.cast (bit phase p) t)

-- its second
abbrev pub second_vote : Setting → Phase → ℕ → ℕ → Setting
second_vote k phase p t = after k k.graph (put k.equivocations (bit phase p)) k.heard (with_second k.cast (bit phase p) t)
