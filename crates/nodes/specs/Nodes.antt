-- Vote-nodes in columns, and what is asked of their bits. Document 01, "Forms that must change": arrays with counts;
-- conditions are the two questions, with their numbers beside.
use Rattle.std.specs.Prelude.{Bool, cond, ◌||◌, List, [], ℕ, zero, suc, leb, eqb, length}
use Rattle.sizes.specs.Sizes.{BLOCKS}
use Rattle.loops.specs.Listing.{keep, fold}
use Rattle.columns.specs.Lists.{padded}
use Rattle.grandpa.specs.Tree.{below}
use Rattle.grandpa.specs.Possible.{enough}
use Rattle.grandpa.specs.declared.PossibleToPrecommit.{PossibleToPrecommit}
use Rattle.context.specs.declared.Phase.{Phase}
use Rattle.context.specs.Votes.{voted, weight_of}
use Rattle.graph.specs.Search.{note}
pub use Rattle.climbs.specs.Places.{col, flag, row, Falls}
use Rattle.nodes.specs.declared.Places.{Places}

-- a list of places as the code holds it
unfoldable pub placed : List ℕ → Places
placed l = record { places = padded BLOCKS l; count = length l }

-- the node whose edge holds b, from a node on, by the nodes above: a node whose edge begins past b is left by one jump
unfoldable pub held_from : (ℕ → ℕ) → (ℕ → ℕ) → ℕ → ℕ → ℕ → ℕ
held_from up above b zero node = 0
held_from up above b (suc f) node =
    cond (leb node b) 0 (cond (leb (above node) b) (cond (below up b node) node 0) (held_from up above b f (above node)))

unfoldable pub held : (ℕ → ℕ) → (ℕ → ℕ) → ℕ → ℕ → ℕ
held up above b node = held_from up above b (suc node) node

-- `find_containing_nodes` by the nodes above; `found_is` says that it is `containing`
unfoldable pub found : (ℕ → ℕ) → (ℕ → ℕ) → List ℕ → ℕ → List ℕ
found up above heads b = fold (λ h l. note (held up above b h) l) heads []

-- the nodes listed under a node; `listed_is` says that they are its `children`
unfoldable pub listed_under : (ℕ → ℕ) → List ℕ → ℕ → List ℕ
listed_under above order x = keep (λ n. eqb (above n) x) order

-- the two questions: a weight of at least a number; possible, of a precommit weight
pub data Condition : Type 0 where
  AtLeast : ℕ → Condition
  Possible : PossibleToPrecommit → Condition

abbrev pub answered : Condition → ℕ → Bool
answered (AtLeast t) w = leb t w
answered (Possible q) w = enough q w

-- a question, the phase it is asked of, and who equivocated
pub record Question : Type 0 where
  pub phase : Phase
  pub condition : Condition
  pub equivocations : List ℕ

-- asked of the weight in the phase, those who equivocated joined in
unfoldable pub passes : List ℕ → Question → List ℕ → Bool
passes weights q bits =
    answered q.condition (weight_of weights (λ p. voted bits q.phase p || voted q.equivocations q.phase p))
