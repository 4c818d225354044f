-- A round by value and its shape. Document 01, "Shape rules", and no others; "Refusal numbers" 9. The stored four answers are not
-- tested against the votes.
use Rattle.std.specs.Prelude.{Bool, true, ◌&&◌, List, ℕ, eqb, leb, length, Option, Some, None}
use Rattle.sizes.specs.Sizes.{WORDS, VOTES, HISTORY}
use Rattle.voter_set.specs.Good.{good}
use Rattle.nodes.specs.Nodes.{row}
use Rattle.graph_rows.specs.Rows.{words_of}
use Rattle.vote_graph.specs.Shape.{lent, columns, is_graph}
use Rattle.vote_shape.specs.Voted.{voted}
use Rattle.answer_shape.specs.Stored.{all_stored, weighed}
use Rattle.importing.specs.declared.Standing.{Standing}
use Rattle.importing.specs.Import.{Frame, framed, Held, held_with}
use Rattle.round.specs.declared.Round.{Round}

-- what no vote changes, and what a vote may change
abbrev pub frame : Round → Frame
frame r = framed r.number r.context.voters r.table r.graph.base

-- beside its columns, as code keeps it
abbrev pub standing : Round → Standing
standing r =
    record {
      listed = r.graph.listed;
      tips = r.graph.tips;
      count = r.history.count;
      equivocations = r.context.equivocations;
      heard = r.heard;
      answers = r.answers;
    }

-- with words beside the round, as code lends it; with the words of its rows
abbrev pub held_lent : Round → List (List ℕ) → Held
held_lent r w = held_with (lent r.graph w) r.votes r.history.entries (standing r)

abbrev pub held : Round → Held
held r = held_lent r (words_of r.graph.rows)

-- arrays of their sizes, which the types say of a round in code
unfoldable pub sized : Held → Bool
sized h =
    eqb (length h.votes.counts) VOTES
    && (eqb (length h.votes.first_block) VOTES
    && (eqb (length h.votes.first_signature) VOTES
    && (eqb (length h.votes.second_target) VOTES
    && (eqb (length h.votes.second_number) VOTES
    && (eqb (length h.votes.second_signature) VOTES && (eqb (length h.entries) HISTORY && eqb (length h.equivocations) WORDS))))))

-- counts within sizes: history has at most HISTORY entries
abbrev pub index_fits : Option ℕ → Bool
index_fits (Some n) = leb n HISTORY
index_fits None = true

-- the recorded votes, and what is kept beside them, as document 01 lists it
unfoldable pub tells_votes : Frame → Held → Bool
tells_votes f h =
    voted f.voters.count f.table.parents f.base h.graph.used h.graph.rows h.votes h.equivocations h.entries h.count

-- the whole test
unfoldable pub shaped : Round → Bool
shaped r =
    is_graph r.graph r.table
    && (good r.context.voters
    && (sized (held r)
    && (tells_votes (frame r) (held r)
    && (weighed r.context.voters.weights (row (columns r.graph).rows r.graph.base) r.heard
    && (all_stored r.table.parents r.table.count r.graph.base r.answers
    && (index_fits r.history.prevoted && index_fits r.history.precommitted))))))
