-- What is recorded of a voter in a phase, and what one more pair is to it. Document 01, "How a vote is taken", rules 2 to 5; a
-- pair is a target, by id and number, with a signature. The index of a voter's votes in a phase is its bit.
use Rattle.std.specs.Prelude.{Bool, cond, ◌&&◌, List, ℕ, zero, suc, eqb, ltb}
use Rattle.layouts.specs.Layout.{entry_index, entry_pair}
use Rattle.grandpa.specs.Vote.{Vote, silent, once, twice}
use Rattle.nodes.specs.Nodes.{col}
use Rattle.tracker.specs.declared.Votes.{Votes}
use Rattle.tracker.specs.declared.Pair.{Pair}
use Rattle.tracker.specs.declared.VoteMultiplicity.{VoteMultiplicity}
use Rattle.tracker.specs.declared.VoteMultiplicity.TheVariants.{Silent, Single, Equivocated}
use Rattle.tracker.specs.declared.AddVoteResult.{AddVoteResult}
use Rattle.tracker.specs.declared.AddVoteResult.TheVariants as added

-- the same target, id and number, and the same signature
abbrev pub same : Pair → Pair → Bool
same a b = eqb a.target b.target && (eqb a.number b.number && eqb a.signature b.signature)

-- a first; one that is recorded already; a second, with the first beside it; a third
abbrev pub add_vote : VoteMultiplicity → Pair → AddVoteResult
add_vote Silent p = added.Single
add_vote (Single a) p = cond (same a p) added.Duplicated (added.Equivocated a)
add_vote (Equivocated a b) p = cond (same a p) added.Duplicated (cond (same b p) added.Duplicated added.Ignored)

-- the first pair at an index: its target by the ids and numbers of the block table
abbrev pub first_pair : List ℕ → List ℕ → List ℕ → List ℕ → ℕ → Pair
first_pair first_block first_signature ids numbers j =
    record { target = col ids (col first_block j); number = col numbers (col first_block j); signature = col first_signature j }

abbrev pub second_pair : List ℕ → List ℕ → List ℕ → ℕ → Pair
second_pair second_target second_number second_signature j = record { target = col second_target j; number = col second_number j; signature = col second_signature j }

-- the pairs at an index
unfoldable pub recorded : Votes → List ℕ → List ℕ → ℕ → VoteMultiplicity
recorded v ids numbers j =
    let a = first_pair v.first_block v.first_signature ids numbers j in
    cond (eqb (col v.counts j) 0) Silent
    (cond (eqb (col v.counts j) 1) (Single a) (Equivocated a (second_pair v.second_target v.second_number v.second_signature j)))

-- the same for the definitions, which speak of the first target alone
abbrev pub cast_of : ℕ → ℕ → Vote
cast_of zero block = silent
cast_of (suc zero) block = once block
cast_of (suc (suc n)) block = twice block

unfoldable pub cast : Votes → ℕ → Vote
cast v j = cast_of (col v.counts j) (col v.first_block j)

-- whether the pair that an entry of history stands for is recorded
abbrev pub paired : List ℕ → ℕ → Bool
paired counts e = ltb (entry_pair e) (col counts (entry_index e))
