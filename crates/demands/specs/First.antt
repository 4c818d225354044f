-- Demand 1: no vote, block or stored state, however malformed, stops a module or takes it outside its tables. Each call tests what it is
-- given. A refusal carries its number from document 01 and changes neither the round nor a lent buffer.
-- No call asks anything of its caller, and `First` speaks of every round, of anyone's making: each number is given exactly when document
-- 01 gives it ("Refusal numbers"), and on a round that keeps the shape rules the call is the written step.
use Rattle.std.specs.Prelude.{true, false, cond, List, ◌≡◌, ◌≢◌, ◌↔◌, ℕ, ◌*◌, ◌≤◌, ◌<◌, T, length, get_or, drop, Option, Some, None, Result, Ok, Err, ⊤}
use Rattle.loops.specs.Listing.{front}
use Rattle.weights.specs.Weights.{most}
use Rattle.loops.specs.Sum.{weigh}
use Rattle.grandpa.specs.Tree.{below}
use Rattle.grandpa.specs.Vote as meant
use Rattle.grandpa.specs.Views.{two_views}
use Rattle.voter_set.specs.declared.VoterSet.{VoterSet}
use Rattle.voter_set.specs.Good.{good, Good}
use Rattle.voter_set.specs.Lookup.{nth_mod}
use Rattle.blocks.specs.declared.BlockTable.{BlockTable}
use Rattle.blocks.specs.Table.{Stands, Absent}
use Rattle.blocks.specs.Add as table
use Rattle.block_shape.specs.Shape.{tabled, Shaped}
use Rattle.block_table.specs.Add.{Due}
use Rattle.context.specs.declared.Phase.{Phase}
use Rattle.context.specs.declared.Phase.TheVariants.{Prevote, Precommit}
use Rattle.context.specs.Votes.{bit}
use Rattle.nodes.specs.Nodes.{col}
use Rattle.tracker.specs.declared.Pair.{Pair}
use Rattle.tracker.specs.declared.VoteMultiplicity.{VoteMultiplicity}
use Rattle.tracker.specs.declared.VoteMultiplicity.TheVariants as recorded
use Rattle.tracker.specs.Recorded as tracker
use Rattle.tracker.specs.Recorded.{same}
use Rattle.judging.specs.declared.Equivocation.{Equivocation}
use Rattle.judging.specs.declared.ImportResult.{ImportResult}
use Rattle.judging.specs.declared.ImportResult.TheVariants as vote
use Rattle.listing.specs.declared.Wanted.TheVariants as wanted
use Rattle.listing.specs.Written.{Lent}
use Rattle.held_laws.specs.Kept.{Kept, Untaken}
use Rattle.round.specs.declared.Round.{Round}
use Rattle.round.specs.Shape.{frame, held, shaped}
use Rattle.round.specs.Calls as call
use Rattle.round.specs.Ask as ask
use Rattle.round_laws.specs.Fits.{Fits, Marked}
use Rattle.round_laws.specs.Later.{Reached, voters_of, votes_of}
use Rattle.two_views.specs.Views as views
use Rattle.two_views.specs.One.{One}
use Rattle.refusals.specs.declared.Refusal.{Refusal}
use Rattle.refusals.specs.declared.Refusal.TheVariants.{Misshapen, UnknownBase, UnknownTarget, WrongNumber, OffTheBase, ShortBuffer, NothingFinal, UnlikeViews}
use Rattle.round.specs.declared.After.{After}

-- the round keeps the shape rules, or breaks one; `is_round` below says which rules they are
abbrev pub Keeps : Round → Type 0
Keeps r = T (shaped r)

abbrev pub Breaks : Round → Type 0
Breaks r = shaped r ≡ false

-- an answer refuses with e exactly when e is due; `number` of refusals gives each its number
abbrev pub Exactly : {A : Type 0} → Result A Refusal → (Refusal → Type 0) → Type 0
Exactly answer due = (e : Refusal) → (answer ≡ Err e) ↔ due e

-- When each refusal is due.

pub data Nine (r : Round) : Refusal → Type 0 where
  misshaped : Breaks r → Nine r Misshapen

pub data NewDue (voters : VoterSet) (table : BlockTable) (base : ℕ) : Refusal → Type 0 where
  voters_misshaped : good voters ≡ false → NewDue voters table base Misshapen
  table_misshaped : tabled table ≡ false → NewDue voters table base Misshapen
  no_base : good voters ≡ true → T (tabled table) → Absent table base → NewDue voters table base UnknownBase

-- 9, then 5, 6, 7, 8 as `Due` of block_table gives them
pub data BlockDue (r : Round) (id parent : ℕ) : Refusal → Type 0 where
  misshaped : Breaks r → BlockDue r id parent Misshapen
  by_table : (e : Refusal) → Keeps r → Due r.table id parent (Err e) → BlockDue r id parent e

-- the voter with this id, and what is recorded of a voter in a phase
pub record VoterAt (r : Round) (id place : ℕ) : Type 0 where
  pub inside : place < r.context.voters.count
  pub named : get_or r.context.voters.ids place 0 ≡ id

abbrev pub recorded_of : Round → Phase → ℕ → VoteMultiplicity
recorded_of r phase place = tracker.recorded r.votes r.table.ids r.table.numbers (bit phase place)

-- on a round that keeps the shape rules, a voter that has no vote in the phase
pub record FirstVote (r : Round) (phase : Phase) (signer : ℕ) : Type 0 where
  pub keeps : Keeps r
  pub place : ℕ
  pub voter : VoterAt r signer place
  pub silent : recorded_of r phase place ≡ recorded.Silent

-- 9; rule 1 before 11, 12, 13, and these of first votes alone
pub data VoteDue (r : Round) (phase : Phase) (signer : ℕ) (p : Pair) : Refusal → Type 0 where
  misshaped : Breaks r → VoteDue r phase signer p Misshapen
  unknown : FirstVote r phase signer → Absent r.table p.target → VoteDue r phase signer p UnknownTarget
  wrong_number : FirstVote r phase signer → (b : ℕ) → Stands r.table p.target b → col r.table.numbers b ≢ p.number
      → VoteDue r phase signer p WrongNumber
  off_the_base : FirstVote r phase signer → (b : ℕ) → Stands r.table p.target b → col r.table.numbers b ≡ p.number
      → (T (below (col r.table.parents) r.graph.base b) → ⊥) → VoteDue r phase signer p OffTheBase

-- 9, then 14: a record has 22 bytes
pub data ListDue (r : Round) (entries out : List ℕ) : Refusal → Type 0 where
  misshaped : Breaks r → ListDue r entries out Misshapen
  too_short : Keeps r → length out < 22 * length entries → ListDue r entries out ShortBuffer

-- 9, 15, 14
pub data FinalizingDue (r : Round) (out : List ℕ) : Refusal → Type 0 where
  misshaped : Breaks r → FinalizingDue r out Misshapen
  none_final : Keeps r → r.answers.finalized ≡ None → FinalizingDue r out NothingFinal
  too_short : Keeps r → (b : ℕ) → r.answers.finalized ≡ Some b → length out < 22 * length (ask.entries_of (wanted.Finalizing b) r)
      → FinalizingDue r out ShortBuffer

pub data ViewsDue (a b : Round) : Refusal → Type 0 where
  one_misshaped : Breaks a → ViewsDue a b Misshapen
  other_misshaped : Breaks b → ViewsDue a b Misshapen
  unlike : Keeps a → Keeps b → (One a b → ⊥) → ViewsDue a b UnlikeViews

-- Document 01, "How a vote is taken": the answer to a vote is the one whose rule holds.
pub data Rule (r : Round) (phase : Phase) (signer : ℕ) (p : Pair) : Result ImportResult Refusal → Type 0 where
  refused : (e : Refusal) → VoteDue r phase signer p e → Rule r phase signer p (Err e)
  stranger : Keeps r → ((k : ℕ) → VoterAt r signer k → ⊥) → Rule r phase signer p (Ok vote.Outside)
  first : FirstVote r phase signer → (b : ℕ) → Stands r.table p.target b → col r.table.numbers b ≡ p.number
      → T (below (col r.table.parents) r.graph.base b) → Rule r phase signer p (Ok vote.Counted)
  again : Keeps r → (k : ℕ) → VoterAt r signer k → (a : Pair) → recorded_of r phase k ≡ recorded.Single a → same a p ≡ true
      → Rule r phase signer p (Ok vote.Duplicated)
  first_again : Keeps r → (k : ℕ) → VoterAt r signer k → (a b : Pair) → recorded_of r phase k ≡ recorded.Equivocated a b → same a p ≡ true
      → Rule r phase signer p (Ok vote.Duplicated)
  second_again : Keeps r → (k : ℕ) → VoterAt r signer k → (a b : Pair) → recorded_of r phase k ≡ recorded.Equivocated a b → same a p ≡ false
      → same b p ≡ true → Rule r phase signer p (Ok vote.Duplicated)
  second : Keeps r → (k : ℕ) → VoterAt r signer k → (a : Pair) → recorded_of r phase k ≡ recorded.Single a → same a p ≡ false
      → Rule r phase signer p (Ok (vote.Equivocated (record { number = r.number; identity = signer; first = a; second = p })))
  third : Keeps r → (k : ℕ) → VoterAt r signer k → (a b : Pair) → recorded_of r phase k ≡ recorded.Equivocated a b → same a p ≡ false
      → same b p ≡ false → Rule r phase signer p (Ok vote.Ignored)

-- What is promised of a call.

-- one that only reads a round: what it tells, or 9
pub record Reads (r : Round) {A : Type 0} (call : Result A Refusal) (tells : A) : Type 0 where
  pub refuses : Exactly call (Nine r)
  pub steps : Keeps r → call ≡ Ok tells

-- one that hands a round back; voters' weights sum to a u64 (`Fits`), which the type says in code
pub record Changes (r : Round) {A : Type 0} (due : Refusal → Type 0) (call step : After (Result A Refusal)) : Type 0 where
  pub refuses : Exactly call.answer due
  pub equal : (e : Refusal) → call.answer ≡ Err e → call.round ≡ r
  pub steps : Keeps r → call ≡ step
  pub keeps : Fits r → Keeps r → Keeps call.round

-- rule 2 and rule 4 record the pair, and nothing else is recorded
pub record Records (r : Round) (phase : Phase) (signer : ℕ) (p : Pair) (x : After (Result ImportResult Refusal)) : Type 0 where
  pub first : x.answer ≡ Ok vote.Counted → (k : ℕ) → VoterAt r signer k → recorded_of x.round phase k ≡ recorded.Single p
  pub second : (e : Equivocation) → x.answer ≡ Ok (vote.Equivocated e) → (k : ℕ) → VoterAt r signer k
      → recorded_of x.round phase k ≡ recorded.Equivocated e.first p
  pub others : (other : Phase) (k : ℕ) → (other ≡ phase → VoterAt r signer k → ⊥) → recorded_of x.round other k ≡ recorded_of r other k

-- the outcome of a vote: its rule gives the answer; a stranger, a duplicate and a third pair leave the round equal too (`Untaken`)
pub record Promised (r : Round) (phase : Phase) (signer : ℕ) (p : Pair) (x : After (Result ImportResult Refusal)) : Type 0 where
  pub rule : (a : Result ImportResult Refusal) → (x.answer ≡ a) ↔ Rule r phase signer p a
  pub records : Records r phase signer p x
  pub equal : Untaken x.answer → x.round ≡ r

pub record Takes (r : Round) (phase : Phase) (signer : ℕ) (p : Pair) : Type 0 where
  pub changes :
      Changes r (VoteDue r phase signer p) (call.import_vote phase signer p r) (call.imported phase signer p r)
  pub promised : Promised r phase signer p (call.import_vote phase signer p r)

-- a list in a lent buffer: what stands after the last record stays
pub record Lists (r : Round) (due : Refusal → Type 0) (out : List ℕ) (call step : Lent) : Type 0 where
  pub refuses : Exactly call.answer due
  pub untouched : (e : Refusal) → call.answer ≡ Err e → call.bytes ≡ out
  pub rest : (n : ℕ) → call.answer ≡ Ok n → drop n call.bytes ≡ drop n out
  pub steps : Keeps r → call ≡ step

-- a new round; beside a refusal stands one that every call refuses. The last two are the shape rules of voters and blocks as facts
pub record Opens (number : ℕ) (voters : VoterSet) (table : BlockTable) (base : ℕ) : Type 0 where
  pub refuses : Exactly (call.new number voters table base).answer (NewDue voters table base)
  pub beside : (e : Refusal) → (call.new number voters table base).answer ≡ Err e → Breaks (call.new number voters table base).round
  pub steps : good voters ≡ true → T (tabled table) → (b : ℕ) → Stands table base b
      → call.new number voters table base ≡ record { answer = Ok tt; round = call.opened number voters table b }
  pub keeps : voters.total ≤ most → (call.new number voters table base).answer ≡ Ok tt → Keeps (call.new number voters table base).round
  pub voters_rules : (good voters ≡ true) ↔ Good voters
  pub table_rules : T (tabled table) ↔ Shaped table

-- heard weight and voters heard: of those with a recorded vote, each once
abbrev pub heard_weight : Round → Phase → ℕ
heard_weight r phase = meant.heard (voters_of r) (votes_of r phase)

abbrev pub heard_voters : Round → Phase → ℕ
heard_voters r phase = weigh (voters_of r).size (λ i. meant.spoke (votes_of r phase i)) (λ i. 1)

-- every public call of `round`, and `two_views`
pub record First (r : Round) : Type 0 where
  pub new : (number : ℕ) (voters : VoterSet) (table : BlockTable) (base : ℕ) → Opens number voters table base
  -- the shape rules as facts
  pub is_round : Fits r → Keeps r ↔ (Kept (frame r) (held r) × Marked r)
  pub add_block : (id parent : ℕ)
      → Changes r (BlockDue r id parent) (call.add_block id parent r) (call.grown r (table.step r.table id parent))
  pub import_prevote : (signer : ℕ) (p : Pair) → Takes r Prevote signer p
  pub import_precommit : (signer : ℕ) (p : Pair) → Takes r Precommit signer p
  pub precommit_ghost : Changes r (Nine r) (call.precommit_ghost r) (call.with_sought r (call.sought r))
  -- `set_prevoted_index`, `set_precommitted_index`
  pub set_index : (phase : Phase)
      → Changes r (Nine r) (call.set_index phase r)
      (record { answer = Ok tt; round = call.with_history r (call.marked phase r.history) })
  pub number : Reads r (ask.number r) r.number
  pub threshold : Reads r (ask.threshold r) r.context.voters.threshold
  pub prevoted_index : Reads r (ask.prevoted_index r) r.history.prevoted
  pub precommitted_index : Reads r (ask.precommitted_index r) r.history.precommitted
  pub completable : Reads r (ask.completable r) r.answers.completable
  pub estimate : Reads r (ask.estimate r) (call.block_of r.table.ids r.table.numbers r.answers.estimate)
  pub finalized : Reads r (ask.finalized r) (call.block_of r.table.ids r.table.numbers r.answers.finalized)
  pub base : Reads r (ask.base r) (call.block_of r.table.ids r.table.numbers (Some r.graph.base))
  pub prevote_participation : Reads r (ask.prevote_participation r) (r.heard.prevote, ask.heard_in r.graph Prevote)
  pub precommit_participation : Reads r (ask.precommit_participation r) (r.heard.precommit, ask.heard_in r.graph Precommit)
  -- and these are not made up
  pub prevotes_heard : Fits r → Keeps r → ask.prevote_participation r ≡ Ok (heard_weight r Prevote, heard_voters r Prevote)
  pub precommits_heard : Fits r → Keeps r → ask.precommit_participation r ≡ Ok (heard_weight r Precommit, heard_voters r Precommit)
  pub primary_voter : Reads r (ask.primary_voter r) (nth_mod r.context.voters r.number)
  pub state : Reads r (ask.state r) (ask.state_of r)
  pub voters : Reads r (ask.voters r) r.context.voters
  -- `prevotes`, `precommits`
  pub votes : (phase : Phase) (out : List ℕ)
      → Lists r (ListDue r (ask.entries_of (wanted.Of phase) r) out) out (ask.votes_of phase r out) (ask.listed (wanted.Of phase) r out)
  pub historical_votes : (out : List ℕ)
      → Lists r (ListDue r (front r.history.count r.history.entries) out) out (ask.historical_votes r out)
      (ask.records (front r.history.count r.history.entries) r.context.voters r.table r.votes out)
  pub finalizing_precommits : (out : List ℕ)
      → Lists r (FinalizingDue r out) out (ask.finalizing_precommits r out) (ask.finalizing r out r.answers.finalized)
  pub two_views_refuses : (other : Round) → Exactly (views.views r other) (ViewsDue r other)
  -- by ids, of the two views that are not refused
  pub views_differ : (other : Round) → Keeps r → Keeps other → One r other
      → views.views r other
      ≡ Ok (two_views (views.voters r) (λ p. views.by_id r.table.ids (views.precommits r p)) (λ p. views.by_id other.table.ids (views.precommits other p)))

-- and every reached round keeps the shape rules
abbrev pub ReachedKeeps : Type 0
ReachedKeeps = (r : Round) → Reached r → Keeps r

abbrev pub Demand1 : Type 0
Demand1 = (r : Round) → First r
