-- The shape of a round as facts. Document 01, "Shape rules": counts within sizes; the table as in Sizes; voter ids rising, weights
-- non-zero, total and T as above; vote-nodes, listing and heads; history; heard weights, node bits and equivocator bits as the
-- recorded votes say; stored blocks in the table, at or below the base; unused places 0. The answers are not held to the votes.
use Rattle.std.specs.Prelude.{◌≡◌, ◌≤◌, Result, Ok, Err}
use Rattle.weights.specs.Weights.{most}
use Rattle.grandpa.specs.Vote.{heard}
use Rattle.voter_set.specs.Good.{Good}
use Rattle.block_shape.specs.Shape.{Shaped}
use Rattle.context.specs.declared.Phase.TheVariants.{Prevote, Precommit}
use Rattle.nodes.specs.Columns.{Sound}
use Rattle.graph_shape.specs.Graphed.{Clear}
use Rattle.tracker.specs.Recorded.{cast}
use Rattle.tracker.specs.Votes.{Wide}
use Rattle.vote_shape_laws.specs.Recorded.{Recorded}
use Rattle.answer_laws.specs.Faithful.{Setting, voters, votes}
use Rattle.answer_laws.specs.Seats.{AllSeated}
use Rattle.judging.specs.declared.ImportResult.{ImportResult}
use Rattle.judging.specs.declared.ImportResult.TheVariants.{Outside, Counted, Duplicated, Equivocated, Ignored}
use Rattle.importing.specs.Import.{Frame, Held}
use Rattle.refusals.specs.declared.Refusal.{Refusal}

-- the round as the laws of the answers see it
abbrev pub setting : Frame → Held → Setting
setting f h =
    record {
      set = f.voters;
      parents = f.table.parents;
      ids = f.table.ids;
      numbers = f.table.numbers;
      count = f.table.count;
      base = f.base;
      graph = h.graph;
      equivocations = h.equivocations;
      heard = h.heard;
      cast = cast h.votes;
    }

pub record Kept (f : Frame) (h : Held) : Type 0 where
  pub good : Good f.voters
  pub fits : f.voters.total ≤ most
  pub table : Shaped f.table
  pub sound : Sound f.table.parents f.table.ids f.base f.table.count h.graph
  pub clear : Clear f.base h.graph
  pub wide : Wide h.votes
  pub recorded :
      Recorded f.voters.count f.table.parents f.base h.graph.used h.graph.rows h.votes h.equivocations h.entries
      h.count
  pub prevotes_heard : h.heard.prevote ≡ heard (voters (setting f h)) (votes (setting f h) Prevote)
  pub precommits_heard : h.heard.precommit ≡ heard (voters (setting f h)) (votes (setting f h) Precommit)
  pub seated : AllSeated f.table.parents f.base f.table.count h.answers

-- the answers of votes that are not taken: of a stranger, refused, a duplicate, a third
abbrev pub Untaken : Result ImportResult Refusal → Type 0
Untaken (Ok Outside) = Unit {0}
Untaken (Err n) = Unit {0}
Untaken (Ok Duplicated) = Unit {0}
Untaken (Ok Ignored) = Unit {0}
Untaken (Ok Counted) = ⊥
Untaken (Ok (Equivocated x)) = ⊥
