-- How a vote is taken. Document 01, "How a vote is taken": 2, a first vote is recorded, put into the graph, appended to history; 4, a
-- second pair is an equivocation, reported with both pairs in arrival order, the signer's weight heard once, its target in
-- history only. Only 2 and 4 run the update.
use Rattle.std.specs.Prelude.{List, ◌≡◌, ◌≢◌, ℕ, ◌+◌, ◌≤◌, ◌<◌, set, length, replicate, Result, Ok}
use Rattle.sizes.specs.Sizes.{WORDS, VOTERS, VOTES, HISTORY}
use Rattle.layouts.specs.Layout.{entry}
use Rattle.weights.specs.Weights.{plus}
use Rattle.voter_set.specs.declared.VoterSet.{VoterSet}
use Rattle.voter_info.specs.declared.VoterInfo.{VoterInfo}
use Rattle.blocks.specs.declared.BlockTable.{BlockTable}
use Rattle.bitfield.specs.Bits.{put}
use Rattle.context.specs.declared.Phase.{Phase}
use Rattle.context.specs.declared.Phase.TheVariants.{Prevote, Precommit}
use Rattle.context.specs.Votes.{bit}
use Rattle.nodes.specs.Nodes.{col}
use Rattle.nodes.specs.Columns.{Columns, Sound}
use Rattle.vote_insert.specs.Insert.{opened, inserted}
use Rattle.tracker.specs.declared.Votes.{Votes}
use Rattle.tracker.specs.declared.Pair.{Pair}
use Rattle.tracker.specs.Votes as votes
use Rattle.tracker.specs.Votes.{Wide}
use Rattle.judging.specs.declared.ImportResult.{ImportResult}
use Rattle.judging.specs.declared.ImportResult.TheVariants.{Counted, Equivocated}
use Rattle.judging.specs.declared.Verdict.{Verdict}
use Rattle.judging.specs.declared.Verdict.TheVariants.{Nothing, First, Second}
use Rattle.judging.specs.Judge.{judge}
use Rattle.answers.specs.declared.Answers.{Answers}
use Rattle.answers.specs.declared.Heard.{Heard}
use Rattle.answers.specs.Update.{no_heard, no_answers, heard_as, Scene, told_after, InBase}
use Rattle.importing.specs.declared.Standing.{Standing}
use Rattle.refusals.specs.declared.Refusal.{Refusal}

-- what no vote changes
pub record Frame : Type 0 where
  pub number : ℕ
  pub voters : VoterSet
  pub table : BlockTable
  pub base : ℕ

abbrev pub framed : ℕ → VoterSet → BlockTable → ℕ → Frame
framed number voters table base = record { number = number; voters = voters; table = table; base = base }

abbrev pub with_table : Frame → BlockTable → Frame
with_table f t = framed f.number f.voters t f.base

-- what a vote may change: the vote graph, the recorded votes, history with its count, the equivocators' bits, heard weights and
-- the stored answers
pub record Held : Type 0 where
  pub graph : Columns
  pub votes : Votes
  pub entries : List ℕ
  pub count : ℕ
  pub equivocations : List ℕ
  pub heard : Heard
  pub answers : Answers

-- graph, votes and history, and what code keeps beside columns
abbrev pub held_with : Columns → Votes → List ℕ → Standing → Held
held_with graph votes entries z =
    record {
      graph = graph;
      votes = votes;
      entries = entries;
      count = z.count;
      equivocations = z.equivocations;
      heard = z.heard;
      answers = z.answers;
    }

-- nothing recorded, and the base the only node
abbrev pub blank : Standing
blank = record { listed = 0; tips = 1; count = 0; equivocations = replicate WORDS 0; heard = no_heard; answers = no_answers }

abbrev pub opened_held : ℕ → Held
opened_held base = held_with (opened base) votes.no_votes (replicate HISTORY 0) blank

-- what the arrays beside the graph's are by their types
pub record Lengths (h : Held) : Type 0 where
  pub wide : Wide h.votes
  pub entries_size : length h.entries ≡ HISTORY
  pub words : length h.equivocations ≡ WORDS

abbrev pub scene : Frame → Held → Scene
scene f h =
    record {
      parents = f.table.parents;
      base = f.base;
      weights = f.voters.weights;
      threshold = f.voters.threshold;
      graph = h.graph;
      equivocations = h.equivocations;
    }

-- all but the graph stays, all but the answers
abbrev pub with_graph : Held → Columns → Held
with_graph h g =
    record {
      graph = g;
      votes = h.votes;
      entries = h.entries;
      count = h.count;
      equivocations = h.equivocations;
      heard = h.heard;
      answers = h.answers;
    }

abbrev pub with_answers : Held → Answers → Held
with_answers h a =
    record {
      graph = h.graph;
      votes = h.votes;
      entries = h.entries;
      count = h.count;
      equivocations = h.equivocations;
      heard = h.heard;
      answers = a;
    }

-- the answers after a vote in a phase was recorded
abbrev pub updated : Frame → Phase → Held → Held
updated f phase h = with_answers h (told_after (scene f h) f.voters.total h.heard phase h.answers)

abbrev pub with_heard : Phase → ℕ → Heard → Heard
with_heard Prevote w h = heard_as Prevote (plus h.prevote w) h
with_heard Precommit w h = heard_as Precommit (plus h.precommit w) h

-- one pair more: its graph and votes, its entry of history, the equivocators and what is heard with it
abbrev pub with_pair : Held → Columns → Votes → ℕ → List ℕ → Heard → Held
with_pair h graph votes e equivocations heard =
    record {
      graph = graph;
      votes = votes;
      entries = set h.entries h.count e;
      count = h.count + 1;
      equivocations = equivocations;
      heard = heard;
      answers = h.answers;
    }

-- rule 2, of a voter for the block at b
abbrev pub with_first : Frame → Phase → VoterInfo → ℕ → Pair → Held → Held
with_first f phase v b p h =
    let j = bit phase v.position in
    with_pair h (inserted f.table.parents f.table.ids f.base b j h.graph) (votes.with_first h.votes j b p.signature)
    (entry j 0) h.equivocations (with_heard phase v.weight.0 h.heard)

-- rule 4
abbrev pub with_second : Phase → VoterInfo → Pair → Held → Held
with_second phase v p h =
    let j = bit phase v.position in
    with_pair h h.graph (votes.with_second h.votes j p.target p.number p.signature) (entry j 1) (put h.equivocations j)
    h.heard

-- the answer and what is held after it
pub record Taken : Type 0 where
  pub answer : (Result ImportResult Refusal)
  pub held : Held

abbrev pub taken : Result ImportResult Refusal → Held → Taken
taken answer held = record { answer = answer; held = held }

abbrev pub apply : Frame → Phase → ℕ → Pair → Held → Verdict → Taken
apply f phase signer p h (Nothing a) = record { answer = a; held = h }
apply f phase signer p h (First v b) = record { answer = Ok Counted; held = updated f phase (with_first f phase v b p h) }
apply f phase signer p h (Second v a) =
    record {
      answer = Ok (Equivocated (record { number = f.number; identity = signer; first = a; second = p }));
      held = updated f phase (with_second phase v p h);
    }

abbrev pub verdict : Frame → Phase → ℕ → Pair → Held → Verdict
verdict f phase signer p h =
    judge f.voters.ids f.voters.weights f.voters.count f.table.ids f.table.numbers f.table.parents
    f.table.count f.base h.votes phase signer p

-- the whole step
unfoldable pub import : Frame → Phase → ℕ → Pair → Held → Taken
import f phase signer p h = apply f phase signer p h (verdict f phase signer p h)

-- what the step asks of a round that is handed in; the shape rules give it
pub record Ready (f : Frame) (h : Held) : Type 0 where
  pub voters_few : f.voters.count ≤ VOTERS
  pub sound : Sound f.table.parents f.table.ids f.base f.table.count h.graph
  pub apart : (x y : ℕ) → x < f.table.count → y < f.table.count → x ≢ y → col f.table.ids x ≢ col f.table.ids y
  pub stored : InBase f.table.parents f.base h.answers.prevote
  pub room : (j : ℕ) → j < VOTES → col h.votes.counts j < 2 → h.count < HISTORY
