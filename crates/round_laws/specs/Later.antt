-- Rounds that calls make of a round, and the rounds that calls reach. Document 01, "Shape rules": every reached state keeps them;
-- demands 2 and 3 speak of these states.
use Rattle.std.specs.Prelude.{◌≡◌, ℕ, ◌≤◌, Ok}
use Rattle.weights.specs.Weights.{most}
use Rattle.grandpa.specs.Tree.{Blocks}
use Rattle.grandpa.specs.Vote.{Vote, Voters}
use Rattle.grandpa.specs.Answers.{Told}
use Rattle.voter_set.specs.declared.VoterSet.{VoterSet}
use Rattle.blocks.specs.declared.BlockTable.{BlockTable}
use Rattle.context.specs.declared.Phase.{Phase}
use Rattle.tracker.specs.declared.Pair.{Pair}
use Rattle.answer_laws.specs.Faithful.{table, voters, votes}
use Rattle.held_laws.specs.Kept.{setting}
use Rattle.held_laws.specs.Answered.{answered}
use Rattle.round.specs.declared.Round.{Round}
use Rattle.round.specs.Shape.{frame, held}
use Rattle.round.specs.Calls.{new, add_block, import_vote, precommit_ghost, set_index}

-- any calls, whatever they answer
pub data Later (r : Round) : Round → Type 0 where
  here : Later r r
  voted : (s : Round) → Later r s → (phase : Phase) (signer : ℕ) (p : Pair) → Later r (import_vote phase signer p s).round
  added : (s : Round) → Later r s → (id parent : ℕ) → Later r (add_block id parent s).round
  asked : (s : Round) → Later r s → Later r (precommit_ghost s).round
  marked : (s : Round) → Later r s → (phase : Phase) → Later r (set_index phase s).round

-- a round that calls make of one that `new` gave; the sum of the weights is a u64
pub record Reached (r : Round) : Type 0 where
  pub number : ℕ
  pub voters : VoterSet
  pub table : BlockTable
  pub base : ℕ
  pub fits : voters.total ≤ most
  pub opens : (new number voters table base).answer ≡ Ok tt
  pub calls : Later (new number voters table base).round r

-- voters, blocks, recorded votes and stored answers of a round as the definitions name them
abbrev pub voters_of : Round → Voters
voters_of r = voters (setting (frame r) (held r))

abbrev pub blocks_of : Round → Blocks
blocks_of r = table (setting (frame r) (held r))

abbrev pub votes_of : Round → Phase → ℕ → Vote
votes_of r = votes (setting (frame r) (held r))

abbrev pub answers_of : Round → Told
answers_of r = answered r.answers
