-- What the shape rules of the recorded votes say. Document 01, "Shape rules": counts within sizes; vote-nodes are the base and the
-- targets of first votes, one each and no others; history one entry for each recorded pair; node bits (first votes only) and
-- equivocator bits as the recorded votes say; unused places 0. A vote-node is in the table and at or below the base by the
-- graph's own rules, so that the targets of first votes are.
use Rattle.std.specs.Prelude.{Bool, cond, List, ◌≡◌, ℕ, ◌≤◌, ◌<◌, T, ltb, length, set, replicate}
use Rattle.sizes.specs.Sizes.{WORDS, HISTORY}
use Rattle.layouts.specs.Layout.{index_place}
use Rattle.loops.specs.Listing.{times, front}
use Rattle.columns.specs.Lists.{padded}
use Rattle.grandpa.specs.Vote.{equivocated}
use Rattle.bitfield.specs.Bits.{has}
use Rattle.graph.specs.Shape.{Bits, Voted, UsedOnly}
use Rattle.nodes.specs.Nodes.{col, flag, row}
use Rattle.tracker.specs.declared.Votes.{Votes}
use Rattle.tracker.specs.Recorded.{cast, paired}

-- no more than two pairs, none of a voter past the last, and 0 where there is none
pub record Tidy (size : ℕ) (v : Votes) : Type 0 where
  pub few : (j : ℕ) → col v.counts j ≤ 2
  pub none_past : (j : ℕ) → size ≤ index_place j → col v.counts j ≡ 0
  pub no_first : (j : ℕ) → col v.counts j ≡ 0 → (col v.first_block j ≡ 0) × (col v.first_signature j ≡ 0)
  pub no_second : (j : ℕ) → col v.counts j ≤ 1 → (col v.second_target j ≡ 0) × (col v.second_number j ≡ 0) × (col v.second_signature j ≡ 0)

-- history: the recorded pairs, once each, and no other entry
pub record Written (v : Votes) (entries : List ℕ) (count : ℕ) : Type 0 where
  pub fits : count ≤ HISTORY
  pub each : (e : ℕ) → times e (front count entries) ≡ cond (paired v.counts e) 1 0
  pub clear : entries ≡ padded HISTORY (front count entries)

-- the whole
pub record Recorded (size : ℕ) (parents : List ℕ) (base : ℕ) (used : List Bool) (rows : List (List ℕ)) (v : Votes)
    (equivocations entries : List ℕ) (count : ℕ) : Type 0 where
  pub tidy : Tidy size v
  pub base_used : T (flag used base)
  pub nodes_voted : Voted (cast v) (flag used)
  pub nodes_only : UsedOnly base (cast v) (flag used)
  pub bits : Bits (col parents) (cast v) (flag used) (row rows)
  pub equivocators : (length equivocations ≡ WORDS) × ((j : ℕ) → has equivocations j ≡ equivocated (cast v j))
  pub history : Written v entries count
