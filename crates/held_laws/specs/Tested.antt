-- The tests of the shape rules of what is held, beside those of the voters, the table and the graph. Document 01, "Shape rules".
use Rattle.std.specs.Prelude.{true, ◌≡◌, T}
use Rattle.nodes.specs.Nodes.{row}
use Rattle.vote_shape.specs.Voted.{voted}
use Rattle.answer_shape.specs.Stored.{all_stored, weighed}
use Rattle.importing.specs.Import.{Frame, Held}

-- the recorded votes, and what is kept beside them
abbrev pub VotesPass : Frame → Held → Type 0
VotesPass f h =
    voted f.voters.count f.table.parents f.base h.graph.used h.graph.rows h.votes h.equivocations h.entries h.count ≡ true

-- heard weights, by the bits of the base's node
abbrev pub WeightsPass : Frame → Held → Type 0
WeightsPass f h = T (weighed f.voters.weights (row h.graph.rows f.base) h.heard)

-- stored blocks
abbrev pub BlocksPass : Frame → Held → Type 0
BlocksPass f h = T (all_stored f.table.parents f.table.count f.base h.answers)
