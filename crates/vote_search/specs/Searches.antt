-- `cumulative_vote` on lent columns, and what the searches ask of the columns that are lent to them.
use Rattle.std.specs.Prelude.{Bool, cond, List, [], ℕ, T, Option, Some, None}
use Rattle.loops.specs.Listing.{front, keep}
use Rattle.grandpa.specs.Tree.{below}
use Rattle.grandpa.specs.Possible.{enough}
use Rattle.grandpa.specs.declared.PossibleToPrecommit.{PossibleToPrecommit}
use Rattle.context.specs.declared.Phase.TheVariants.{Precommit}
use Rattle.graph.specs.Search.{nearest}
use Rattle.graph.specs.Graph.{Graph, join_of}
use Rattle.graph.specs.Ghost.{is_nil, under, find_ancestor}
use Rattle.nodes.specs.Nodes.{col, flag, row, found, listed_under, Condition, AtLeast, Possible, Question, passes}
use Rattle.nodes.specs.Columns.{Columns, Sound}
use Rattle.vote_search.specs.declared.Both.{Both}

-- `cumulative_vote`: a node's own bits, else the joined bits of the nodes found. A block that has no node and is on no edge
-- is not in the graph. `tallied_is` says that the bits are `tally`.
unfoldable pub tallied : List ℕ → List Bool → List ℕ → List (List ℕ) → List ℕ → ℕ → ℕ → Option (List ℕ)
tallied parents used above rows heads tips b =
    let ns = found (col parents) (col above) (front tips heads) b in
    cond (flag used b) (Some (row rows b)) (cond (is_nil ns) None (Some (join_of (row rows) ns)))

-- the nodes that follow a block, by the nodes above. `followed_is` says that they are `following`.
unfoldable pub followed : List ℕ → List Bool → List ℕ → List ℕ → ℕ → ℕ → List ℕ
followed parents used above order listed b =
    keep (under (col parents) b) (listed_under (col above) (front listed order) (nearest (col parents) (flag used) b))

-- a block at or below the base, on columns that keep the shape rules. No search is lent the ids or the count of the table.
pub record Stands (parents : List ℕ) (base : ℕ) (g : Columns) (block : ℕ) : Type 0 where
  pub ids : List ℕ
  pub count : ℕ
  pub sound : Sound parents ids base count g
  pub in_base : T (below (col parents) base block)

-- the graph without its listing, which `find_ancestor` is not lent; `ancestor_unlisted` says that it does not ask for it
abbrev pub unlisted : List Bool → List (List ℕ) → List ℕ → ℕ → Graph
unlisted used rows heads tips = record { used = flag used; bits = row rows; order = []; heads = front tips heads }

-- the graph without its heads, which `descend` is not lent; `descend_unheaded` says that it does not ask for them
abbrev pub unheaded : List Bool → List (List ℕ) → List ℕ → ℕ → Graph
unheaded used rows order listed = record { used = flag used; bits = row rows; order = front listed order; heads = [] }

-- the two searches towards the base among precommits: for weight at least T, and for what is possible. Document 01, "The four
-- answers": finalized and estimate.
abbrev pub of_precommits : List ℕ → Condition → Question
of_precommits equivocations c = record { phase = Precommit; condition = c; equivocations = equivocations }

unfoldable pub both : (ℕ → ℕ) → Graph → ℕ → List ℕ → List ℕ → PossibleToPrecommit → ℕ → Both
both up g base weights equivocations p b =
    record {
      weighty = (find_ancestor up g base (passes weights (of_precommits equivocations (AtLeast p.threshold))) b);
      possible = (find_ancestor up g base (passes weights (of_precommits equivocations (Possible p))) b);
    }

-- a block found before, or else one found now
abbrev pub or_else : Option ℕ → Option ℕ → Option ℕ
or_else (Some b) o = Some b
or_else None o = o

-- this block, where its weight makes it possible
abbrev pub this : PossibleToPrecommit → ℕ → ℕ → Option ℕ
this p weight b = cond (enough p weight) (Some b) None
