-- The calls that only read a round. Document 01, "Refusal numbers": 9 first where a state is taken, also where it is only read.
use Rattle.std.specs.Prelude.{cond, List, ℕ, Option, Some, None, Result, Ok, Err, Bool, ⊤}
use Rattle.loops.specs.Listing.{front, keep}
use Rattle.voter_set.specs.declared.VoterSet.{VoterSet}
use Rattle.blocks.specs.declared.BlockTable.{BlockTable}
use Rattle.tracker.specs.declared.Votes.{Votes}
use Rattle.listing.specs.declared.Wanted.{Wanted}
use Rattle.listing.specs.declared.Wanted.TheVariants as wanted
use Rattle.listing.specs.Entries.{by_voter, phase_in, wants}
use Rattle.listing.specs.Written.{Lent, record_of, written}
use Rattle.voter_set.specs.Lookup.{nth_mod}
use Rattle.context.specs.declared.Phase.{Phase}
use Rattle.context.specs.declared.Phase.TheVariants.{Prevote, Precommit}
use Rattle.context.specs.Votes.{voters_heard_in}
use Rattle.vote_graph.specs.declared.VoteGraph.{VoteGraph}
use Rattle.vote_graph.specs.Shape.{columns}
use Rattle.nodes.specs.Nodes.{row}
use Rattle.round.specs.declared.Round.{Round}
use Rattle.round.specs.declared.State.{State}
use Rattle.round.specs.Shape.{shaped}
use Rattle.round.specs.Calls.{block_of}
use Rattle.refusals.specs.declared.Refusal.{Refusal}
use Rattle.refusals.specs.declared.Refusal.TheVariants.{Misshapen, NothingFinal}
use Rattle.voter_info.specs.declared.VoterInfo.{VoterInfo}

-- what a round tells, or 9
abbrev pub told : {A : Type 0} → Round → A → Result A Refusal
told r x = cond (shaped r) (Ok x) (Err Misshapen)

-- the test alone
unfoldable pub tested : Round → Result ⊤ Refusal
tested r = told r tt

unfoldable pub number : Round → Result ℕ Refusal
number r = told r r.number

unfoldable pub threshold : Round → Result ℕ Refusal
threshold r = told r r.context.voters.threshold

unfoldable pub prevoted_index : Round → Result (Option ℕ) Refusal
prevoted_index r = told r r.history.prevoted

unfoldable pub precommitted_index : Round → Result (Option ℕ) Refusal
precommitted_index r = told r r.history.precommitted

unfoldable pub completable : Round → Result Bool Refusal
completable r = told r r.answers.completable

-- a block of the table
abbrev pub told_block : Round → Option ℕ → Result (Option (ℕ × ℕ)) Refusal
told_block r o = told r (block_of r.table.ids r.table.numbers o)

unfoldable pub estimate : Round → Result (Option (ℕ × ℕ)) Refusal
estimate r = told_block r r.answers.estimate

unfoldable pub finalized : Round → Result (Option (ℕ × ℕ)) Refusal
finalized r = told_block r r.answers.finalized

unfoldable pub base : Round → Result (Option (ℕ × ℕ)) Refusal
base r = told_block r (Some r.graph.base)

-- voters heard in a phase: the base's node has every vote
unfoldable pub heard_in : VoteGraph → Phase → ℕ
heard_in g phase = voters_heard_in (row (columns g).rows g.base) phase

abbrev pub told_heard : Round → ℕ → Phase → Result (ℕ × ℕ) Refusal
told_heard r weight phase = told r (weight, heard_in r.graph phase)

unfoldable pub prevote_participation : Round → Result (ℕ × ℕ) Refusal
prevote_participation r = told_heard r r.heard.prevote Prevote

unfoldable pub precommit_participation : Round → Result (ℕ × ℕ) Refusal
precommit_participation r = told_heard r r.heard.precommit Precommit

-- the voter at the round's number, which wraps around
unfoldable pub primary_voter : Round → Result (Option (ℕ × VoterInfo)) Refusal
primary_voter r = told r (nth_mod r.context.voters r.number)

-- the stored answers
abbrev pub state_of : Round → State
state_of r =
    record {
      prevote = block_of r.table.ids r.table.numbers r.answers.prevote;
      finalized = block_of r.table.ids r.table.numbers r.answers.finalized;
      estimate = block_of r.table.ids r.table.numbers r.answers.estimate;
      completable = r.answers.completable;
    }

unfoldable pub state : Round → Result State Refusal
state r = told r (state_of r)

unfoldable pub voters : Round → Result VoterSet Refusal
voters r = told r r.context.voters

-- lists of records in a lent buffer. Document 01, "The four answers"; "Refusal numbers": 9, then 15, then 14; a refusal leaves the buffer
-- untouched.
unfoldable pub records : List ℕ → VoterSet → BlockTable → Votes → List ℕ → Lent
records es voters table v out = written (record_of v voters.ids table.ids table.numbers) es out

-- the wanted votes by rising voter
unfoldable pub entries_of : Wanted → Round → List ℕ
entries_of w r = keep (wants r.votes.counts r.votes.first_block r.table.parents w) (by_voter (phase_in w) r.context.voters.count)

unfoldable pub listed : Wanted → Round → List ℕ → Lent
listed w r out = records (entries_of w r) r.context.voters r.table r.votes out

abbrev pub refused : Refusal → List ℕ → Lent
refused n out = record { answer = Err n; bytes = out }

-- `prevotes`, `precommits`
unfoldable pub votes_of : Phase → Round → List ℕ → Lent
votes_of phase r out = cond (shaped r) (listed (wanted.Of phase) r out) (refused Misshapen out)

-- every recorded vote in arrival order
unfoldable pub historical_votes : Round → List ℕ → Lent
historical_votes r out =
    cond (shaped r)
    (records (front r.history.count r.history.entries) r.context.voters r.table r.votes out)
    (refused Misshapen out)

-- 15 where nothing is finalized
abbrev pub finalizing : Round → List ℕ → Option ℕ → Lent
finalizing r out (Some b) = listed (wanted.Finalizing b) r out
finalizing r out None = refused NothingFinal out

unfoldable pub finalizing_precommits : Round → List ℕ → Lent
finalizing_precommits r out = cond (shaped r) (finalizing r out r.answers.finalized) (refused Misshapen out)
