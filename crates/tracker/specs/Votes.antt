-- The recorded votes of a round, in columns by index: as code is lent them, none at all, and with one more pair. Document 01, "How a vote is
-- taken", rules 2 and 4; "Shape rules": unused places 0.
use Rattle.std.specs.Prelude.{List, ◌≡◌, ℕ, length, set, replicate}
use Rattle.sizes.specs.Sizes.{VOTES}
use Rattle.lent.specs.Moment.{Moment}
use Rattle.tracker.specs.declared.Votes.{Votes}

abbrev pub votes_at : (m : Moment) → m.Column (List ℕ) → m.Column (List ℕ) → m.Column (List ℕ) → m.Column (List ℕ) → m.Column (List ℕ)
    → m.Column (List ℕ) → Votes
votes_at m counts first_block first_signature second_target second_number second_signature =
    record {
      counts = m.list (List ℕ) counts;
      first_block = m.list (List ℕ) first_block;
      first_signature = m.list (List ℕ) first_signature;
      second_target = m.list (List ℕ) second_target;
      second_number = m.list (List ℕ) second_number;
      second_signature = m.list (List ℕ) second_signature;
    }

-- what the columns are by their types
pub record Wide (v : Votes) : Type 0 where
  pub counts_size : length v.counts ≡ VOTES
  pub first_block_size : length v.first_block ≡ VOTES
  pub first_signature_size : length v.first_signature ≡ VOTES
  pub second_target_size : length v.second_target ≡ VOTES
  pub second_number_size : length v.second_number ≡ VOTES
  pub second_signature_size : length v.second_signature ≡ VOTES

-- no vote
abbrev pub no_votes : Votes
no_votes =
    record {
      counts = replicate VOTES 0;
      first_block = replicate VOTES 0;
      first_signature = replicate VOTES 0;
      second_target = replicate VOTES 0;
      second_number = replicate VOTES 0;
      second_signature = replicate VOTES 0;
    }

-- a first pair recorded at an index
abbrev pub with_first : Votes → ℕ → ℕ → ℕ → Votes
with_first v j place signature =
    record {
      counts = set v.counts j 1;
      first_block = set v.first_block j place;
      first_signature = set v.first_signature j signature;
      second_target = v.second_target;
      second_number = v.second_number;
      second_signature = v.second_signature;
    }

-- a second
abbrev pub with_second : Votes → ℕ → ℕ → ℕ → ℕ → Votes
with_second v j target number signature =
    record {
      counts = set v.counts j 2;
      first_block = v.first_block;
      first_signature = v.first_signature;
      second_target = set v.second_target j target;
      second_number = set v.second_number j number;
      second_signature = set v.second_signature j signature;
    }
