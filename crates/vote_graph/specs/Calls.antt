-- The calls on a vote graph. Document 01, "Porting order" 6, and "Refusal numbers" 9, 11, 13, in that order; a refusal
-- hands the graph back equal.
use Rattle.std.specs.Prelude.{Bool, cond, List, ℕ, Option, Some, None, Result, Ok, Err}
use Rattle.grandpa.specs.Tree.{below}
use Rattle.blocks.specs.declared.BlockTable.{BlockTable}
use Rattle.blocks.specs.Add.{place_of, on_place}
use Rattle.graph.specs.Ghost as ghost_steps
use Rattle.nodes.specs.Nodes.{col}
use Rattle.nodes.specs.Columns.{view}
use Rattle.vote_insert.specs.Insert.{inserted}
use Rattle.vote_search.specs.Searches.{tallied}
use Rattle.vote_graph.specs.declared.VoteGraph.{VoteGraph}
use Rattle.vote_graph.specs.declared.Inserted.{Inserted}
use Rattle.vote_graph.specs.Shape.{columns, graph_of, is_graph}
use Rattle.vote_graph.specs.Target.{target, start, on_target}
use Rattle.refusals.specs.declared.Refusal.{Refusal}
use Rattle.refusals.specs.declared.Refusal.TheVariants.{Misshapen, UnknownTarget}

-- `insert`
unfoldable pub voted : VoteGraph → BlockTable → ℕ → ℕ → VoteGraph
voted g t k bit = graph_of g.base (inserted t.parents t.ids g.base k bit (columns g))

abbrev pub refused : VoteGraph → Refusal → Inserted
refused g e = record { answer = Err e; graph = g }

abbrev pub placed : VoteGraph → BlockTable → ℕ → ℕ → Inserted
placed g t bit k = record { answer = Ok k; graph = voted g t k bit }

unfoldable pub insert : VoteGraph → BlockTable → ℕ → ℕ → Inserted
insert g t id bit =
    cond (is_graph g t) (on_target (target t.ids t.parents t.count g.base id) (placed g t bit) (refused g)) (refused g Misshapen)

-- `cumulative_vote`. The Rust gives no votes for a block that is not in the graph.
unfoldable pub tally_of : VoteGraph → BlockTable → ℕ → Option (List ℕ)
tally_of g t k = let c = columns g in tallied t.parents c.used c.above c.rows c.heads c.tips k

unfoldable pub cumulative_vote : VoteGraph → BlockTable → ℕ → Result (Option (List ℕ)) Refusal
cumulative_vote g t id =
    cond (is_graph g t)
    (on_place (place_of t.ids t.count id)
    (λ k. Ok (cond (below (col t.parents) g.base k) (tally_of g t k) None))
    (Err UnknownTarget))
    (Err Misshapen)

-- `find_ancestor`
unfoldable pub ancestor_of : VoteGraph → BlockTable → (List ℕ → Bool) → ℕ → Option ℕ
ancestor_of g t ok k = ghost_steps.find_ancestor (col t.parents) (view (columns g)) g.base ok k

unfoldable pub find_ancestor : VoteGraph → BlockTable → (List ℕ → Bool) → ℕ → Result (Option ℕ) Refusal
find_ancestor g t ok id =
    cond (is_graph g t)
    (on_target (target t.ids t.parents t.count g.base id) (λ k. Ok (ancestor_of g t ok k)) Err)
    (Err Misshapen)

-- `find_ghost`
unfoldable pub ghost_of : VoteGraph → BlockTable → (List ℕ → Bool) → ℕ → Option ℕ
ghost_of g t ok k = ghost_steps.find_ghost (col t.parents) (view (columns g)) ok k

unfoldable pub find_ghost : VoteGraph → BlockTable → (List ℕ → Bool) → Option ℕ → Result (Option ℕ) Refusal
find_ghost g t ok from =
    cond (is_graph g t)
    (on_target (start t.parents t.count g.base from) (λ k. Ok (ghost_of g t ok k)) Err)
    (Err Misshapen)
