-- The calls on a round. Document 01, "How a vote is taken", "The four answers", "Refusal numbers": 9 first where a state is taken; a
-- refusal hands the round back equal.
use Rattle.std.specs.Prelude.{cond, List, ℕ, replicate, Option, Some, None, Result, Ok, Err, ⊤}
use Rattle.sizes.specs.Sizes.{VOTERS, BLOCKS}
use Rattle.voter_set.specs.declared.VoterSet.{VoterSet}
use Rattle.voter_set.specs.Good.{good}
use Rattle.blocks.specs.declared.BlockTable.{BlockTable}
use Rattle.blocks.specs.declared.Added.{Added}
use Rattle.blocks.specs.Add.{place_of, on_place, step}
use Rattle.block_shape.specs.Shape.{tabled}
use Rattle.context.specs.declared.Phase.{Phase}
use Rattle.context.specs.declared.Phase.TheVariants.{Prevote, Precommit}
use Rattle.nodes.specs.Nodes.{col}
use Rattle.graph_rows.specs.declared.Row.{Row}
use Rattle.graph_rows.specs.Rows.{rows_of}
use Rattle.vote_graph.specs.Shape.{graph_with}
use Rattle.tracker.specs.declared.Pair.{Pair}
use Rattle.judging.specs.declared.ImportResult.TheVariants as result
use Rattle.answers.specs.declared.Answers.{Answers}
use Rattle.answers.specs.Update.{phase_ghost, with_precommit}
use Rattle.importing.specs.Import.{Frame, framed, Held, opened_held, Taken, scene, import}
use Rattle.round.specs.declared.History.{History}
use Rattle.round.specs.declared.Round.{Round}
use Rattle.round.specs.Shape.{frame, held, shaped}
use Rattle.refusals.specs.declared.Refusal.{Refusal}
use Rattle.refusals.specs.declared.Refusal.TheVariants.{Misshapen, UnknownBase}
use Rattle.round.specs.declared.After.{After}
use Rattle.judging.specs.declared.ImportResult.{ImportResult}

-- a round of its frame, what is held, the rows of its graph and the two indices
abbrev pub made : Frame → Held → List Row → Option ℕ → Option ℕ → Round
made f h rows prevoted precommitted =
    record {
      number = f.number;
      context = record { voters = f.voters; equivocations = h.equivocations };
      table = f.table;
      graph = graph_with f.base h.graph rows;
      votes = h.votes;
      history = record { entries = h.entries; count = h.count; prevoted = prevoted; precommitted = precommitted };
      heard = h.heard;
      answers = h.answers;
    }

-- a round with no votes
unfoldable pub opened : ℕ → VoterSet → BlockTable → ℕ → Round
opened number voters table base =
    made (framed number voters table base) (opened_held base) (rows_of (opened_held base).graph.rows) None None

-- beside a refusal: no voters and no blocks
abbrev pub nobody : VoterSet
nobody = record { ids = replicate VOTERS 0; weights = replicate VOTERS 0; count = 0; threshold = 0; total = 0 }

abbrev pub no_blocks : BlockTable
no_blocks = record { ids = replicate BLOCKS 0; numbers = replicate BLOCKS 0; parents = replicate BLOCKS 0; count = 0 }

abbrev pub not_opened : Refusal → After (Result ⊤ Refusal)
not_opened n = record { answer = Err n; round = opened 0 nobody no_blocks 0 }

-- `Round::new`: 9 where the voters or the table break their shape, 10 where the base is not in the table
unfoldable pub new : ℕ → VoterSet → BlockTable → ℕ → After (Result ⊤ Refusal)
new number voters table base =
    cond (good voters)
    (cond (tabled table)
    (on_place (place_of table.ids table.count base) (λ b. record { answer = Ok tt; round = opened number voters table b }) (not_opened UnknownBase))
    (not_opened Misshapen))
    (not_opened Misshapen)

abbrev pub with_table : Round → BlockTable → Round
with_table r t =
    record {
      number = r.number;
      context = r.context;
      table = t;
      graph = r.graph;
      votes = r.votes;
      history = r.history;
      heard = r.heard;
      answers = r.answers;
    }

abbrev pub grown : Round → Added → After (Result ℕ Refusal)
grown r a = record { answer = a.answer; round = with_table r a.table }

-- one more block: 9, then 5 to 8
unfoldable pub add_block : ℕ → ℕ → Round → After (Result ℕ Refusal)
add_block id parent r = cond (shaped r) (grown r (step r.table id parent)) (record { answer = Err Misshapen; round = r })

abbrev pub with_held : Round → Held → Round
with_held r h = made (frame r) h (rows_of h.graph.rows) r.history.prevoted r.history.precommitted

abbrev pub as_imported : Round → Taken → After (Result ImportResult Refusal)
as_imported r t = record { answer = t.answer; round = with_held r t.held }

-- a vote in a phase, on a round that keeps the shape
unfoldable pub imported : Phase → ℕ → Pair → Round → After (Result ImportResult Refusal)
imported phase signer p r = as_imported r (import (frame r) phase signer p (held r))

-- `import_prevote`, `import_precommit`
unfoldable pub import_vote : Phase → ℕ → Pair → Round → After (Result ImportResult Refusal)
import_vote phase signer p r = cond (shaped r) (imported phase signer p r) (record { answer = Err Misshapen; round = r })

-- a block by id and number
abbrev pub block_of : List ℕ → List ℕ → Option ℕ → Option (ℕ × ℕ)
block_of ids numbers (Some b) = Some (col ids b, col numbers b)
block_of ids numbers None = None

abbrev pub with_answers : Round → Answers → Round
with_answers r a =
    record {
      number = r.number;
      context = r.context;
      table = r.table;
      graph = r.graph;
      votes = r.votes;
      history = r.history;
      heard = r.heard;
      answers = a;
    }

-- `precommit_ghost`: worked out from the stored one, and stored
unfoldable pub sought : Round → Option ℕ
sought r = phase_ghost (scene (frame r) (held r)) Precommit r.heard.precommit r.answers.precommit

abbrev pub with_sought : Round → Option ℕ → After (Result (Option (ℕ × ℕ)) Refusal)
with_sought r o =
    record { answer = Ok (block_of r.table.ids r.table.numbers o); round = with_answers r (with_precommit r.answers o) }

unfoldable pub precommit_ghost : Round → After (Result (Option (ℕ × ℕ)) Refusal)
precommit_ghost r = cond (shaped r) (with_sought r (sought r)) (record { answer = Err Misshapen; round = r })

-- the index of a phase is set to the votes seen so far
abbrev pub marked : Phase → History → History
marked Prevote h = record { entries = h.entries; count = h.count; prevoted = Some h.count; precommitted = h.precommitted }
marked Precommit h = record { entries = h.entries; count = h.count; prevoted = h.prevoted; precommitted = Some h.count }

abbrev pub with_history : Round → History → Round
with_history r h =
    record {
      number = r.number;
      context = r.context;
      table = r.table;
      graph = r.graph;
      votes = r.votes;
      history = h;
      heard = r.heard;
      answers = r.answers;
    }

-- `set_prevoted_index`, `set_precommitted_index`
unfoldable pub set_index : Phase → Round → After (Result ⊤ Refusal)
set_index phase r =
    cond (shaped r) (record { answer = Ok tt; round = with_history r (marked phase r.history) }) (record { answer = Err Misshapen; round = r })
