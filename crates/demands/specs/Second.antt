-- Demand 2: where the equivocators of each phase weigh at most the fault weight, prevote-GHOST, estimate, finalized and completable are
-- equal to the definitions from the GRANDPA paper with the Rust's threshold. The definitions are those of grandpa's Answers; `Second`
-- holds of every reached round that has a weight. The premise on weight is needed: a set of anyone's making may be empty, then T is 0,
-- and by the definitions every block has it, while the round, which takes no vote, tells nothing (`Empty`). Refusal 3 makes no such set
-- (`MadeWeighs`).
use Rattle.std.specs.Prelude.{cond, List, ◌≡◌, ◌↔◌, ℕ, ◌≤◌, ◌<◌, Option, Some, None, Result, Ok, Err, true, false}
use Rattle.grandpa.specs.Weight.{fault}
use Rattle.grandpa.specs.Vote.{equivocators}
use Rattle.grandpa.specs.Answers as paper
use Rattle.grandpa.specs.Answers.{Says, Ghost, every_child, with_node}
use Rattle.voter_set.specs.Voters as set
use Rattle.context.specs.declared.Phase.{Phase}
use Rattle.context.specs.declared.Phase.TheVariants.{Prevote, Precommit}
use Rattle.nodes.specs.Nodes.{col}
use Rattle.round.specs.declared.Round.{Round}
use Rattle.round.specs.Ask as ask
use Rattle.round_laws.specs.Later.{Reached, voters_of, blocks_of, votes_of, answers_of}
use Rattle.refusals.specs.declared.Refusal.{Refusal}
use Rattle.round.specs.declared.State.{State}

-- the voters weigh something
abbrev pub Weighs : Round → Type 0
Weighs r = 0 < r.context.voters.total

-- equivocators of a phase weigh at most F
abbrev pub Few : Phase → Round → Type 0
Few phase r = equivocators (voters_of r) (votes_of r phase) ≤ fault r.context.voters.total

-- the block at a place, as a call tells it: by id and number
abbrev pub shown : Round → Option ℕ → Result (Option (ℕ × ℕ)) Refusal
shown r None = Ok None
shown r (Some b) = Ok (Some (col r.table.ids b, col r.table.numbers b))

-- a call tells the one block of the table of which P holds, and nothing where P holds of none
pub record Tells (r : Round) (answer : Result (Option (ℕ × ℕ)) Refusal) (P : ℕ → Type 0) : Type 0 where
  pub block : Option ℕ
  pub tells : answer ≡ shown r block
  pub says : Says P block
  pub inside : (b : ℕ) → P b → b < r.table.count
  pub only : (a b : ℕ) → P a → P b → a ≡ b

-- the prevote-GHOST that `state` tells
abbrev pub ghost_told : Result State Refusal → Result (Option (ℕ × ℕ)) Refusal
ghost_told (Ok s) = Ok s.prevote
ghost_told (Err n) = Err n

-- the definitions, of the recorded votes: the four answers as they are computed; the GHOST, and what is told from it, by what fixes them
abbrev pub meant : Round → paper.Told
meant r = paper.told (voters_of r) (blocks_of r) r.graph.base (votes_of r Prevote) (votes_of r Precommit)

abbrev pub IsGhost : Round → ℕ → Type 0
IsGhost r = Ghost (voters_of r) (blocks_of r) (votes_of r Prevote)

abbrev pub IsFinalized : Round → ℕ → Type 0
IsFinalized r b =
    (g : ℕ) × IsGhost r g × paper.Finalized (voters_of r) (blocks_of r).up r.graph.base (votes_of r Precommit) g b

abbrev pub IsEstimate : Round → ℕ → Type 0
IsEstimate r b =
    (g : ℕ) × IsGhost r g × paper.Estimate (voters_of r) (blocks_of r).up r.graph.base (votes_of r Precommit) g b

-- the paper speaks of any child of g
abbrev pub IsCompletable : Round → Type 0
IsCompletable r =
    (g : ℕ) × IsGhost r g
    × paper.Completable (voters_of r) (blocks_of r).up r.graph.base (votes_of r Precommit) (every_child (blocks_of r)) g

-- document 01 and the Rust, of those with a vote-node at or below them
abbrev pub IsCompletableNoded : Round → Type 0
IsCompletableNoded r =
    (g : ℕ) × IsGhost r g
    × paper.Completable (voters_of r) (blocks_of r).up r.graph.base (votes_of r Precommit)
    (with_node (voters_of r) (blocks_of r) (votes_of r Prevote) (votes_of r Precommit)) g

-- of a round in which prevote equivocators weigh at most F; the paper's form of completable, where precommit equivocators do too
pub record Second (r : Round) : Type 0 where
  pub ghost : Tells r (ghost_told (ask.state r)) (IsGhost r)
  pub finalized : Tells r (ask.finalized r) (IsFinalized r)
  pub estimate : Tells r (ask.estimate r) (IsEstimate r)
  pub completable : Few Precommit r → (ask.completable r ≡ Ok true) ↔ IsCompletable r
  pub completable_noded : (ask.completable r ≡ Ok true) ↔ IsCompletableNoded r
  -- `state` tells the same four
  pub state : (s : State) × (ask.state r ≡ Ok s)
      × (ask.finalized r ≡ Ok s.finalized) × (ask.estimate r ≡ Ok s.estimate) × (ask.completable r ≡ Ok s.completable)
  pub yes_or_no : ask.completable r ≡ Ok r.answers.completable
  -- before g exists, all four are none or no
  pub before : ((g : ℕ) → IsGhost r g → ⊥)
      → (ghost_told (ask.state r) ≡ Ok None) × (ask.finalized r ≡ Ok None) × (ask.estimate r ≡ Ok None)
      × (ask.completable r ≡ Ok false)
  -- the same in one equation, with the functions that compute the definitions
  pub computed : answers_of r ≡ meant r

abbrev pub Demand2 : Type 0
Demand2 = (r : Round) → Reached r → Weighs r → Few Prevote r → Second r

-- a round opened on a set that `VoterSet::new` made weighs something
abbrev pub MadeWeighs : Type 0
MadeWeighs = (r : Round) (reached : Reached r) (ids weights : List ℕ) → set.new ids weights ≡ Ok reached.voters → Weighs r

-- a reached round without voters, of which the definitions tell a GHOST
pub record Empty : Type 0 where
  pub round : Round
  pub reached : Reached round
  pub few : (phase : Phase) → Few phase round
  pub meant_ghost : (meant round).ghost ≡ Some 0
  pub told_ghost : ghost_told (ask.state round) ≡ Ok None
