-- Document 01, case J: voters 1 to 4 at places 0 to 3; blocks 10, 11, 12, 13 at places 0 to 3, 11 under 10, 12 and 13 under 11;
-- prevotes 1, 2, 4 for 12 and 3 for 13; precommits 1 and 2 for 12, 3 for 11; signatures 0; 11 finalized. And J with voter 3's
-- second precommit for 13, which finalizes 12.
use mathlib.Core.List.{List, [], ◌∷◌}
use mathlib.Core.Path.{◌≡◌, refl}
use Prim.Native.Nat.{ℕ, suc}
use lib.ListN.{replicate, set}
use Rattle.sizes.specs.Sizes.{VOTES}
use Rattle.layouts.specs.Layout.{RUN, index, index_place, index_phase, entry, entry_index, entry_pair}
use Rattle.layouts.specs.Layout as layout
use Rattle.loops.specs.Listing.{keep}
use Rattle.grandpa.specs.Tree.{within, below}
use Rattle.context.specs.declared.Phase.{Phase}
use Rattle.context.specs.declared.Phase.TheVariants.{Prevote, Precommit}
use Rattle.context.specs.Votes.{bit, phase_at}
use Rattle.tracker.specs.declared.Votes.{Votes}
use Rattle.tracker.specs.Recorded.{recorded}
use Rattle.records.specs.Bytes.{vote_bytes}
use Rattle.listing.specs.declared.Wanted.TheVariants.{Of, Finalizing}
use Rattle.listing.specs.Entries.{by_voter, wants}
use Rattle.listing.specs.Written.{pair_of, record_of, in_a_row, written}
use Rattle.std.specs.Prelude.{Ok, Err}
use Rattle.refusals.specs.declared.Refusal.TheVariants.{ShortBuffer}

voters : List ℕ
voters = 1 ∷ 2 ∷ 3 ∷ 4 ∷ []

ids : List ℕ
ids = 10 ∷ 11 ∷ 12 ∷ 13 ∷ []

numbers : List ℕ
numbers = 0 ∷ 1 ∷ 2 ∷ 2 ∷ []

parents : List ℕ
parents = 0 ∷ 0 ∷ 1 ∷ 1 ∷ []

-- a column with numbers of the voters of a phase, from place p on
voted : Phase → ℕ → List ℕ → List ℕ → List ℕ
voted phase p [] column = column
voted phase p (x ∷ xs) column = voted phase (suc p) xs (set column (bit phase p) x)

none : List ℕ
none = replicate VOTES 0

first_block : List ℕ
first_block = voted Prevote 0 (2 ∷ 2 ∷ 3 ∷ 2 ∷ []) (voted Precommit 0 (2 ∷ 2 ∷ 1 ∷ []) none)

spoken : List ℕ
spoken = voted Prevote 0 (1 ∷ 1 ∷ 1 ∷ 1 ∷ []) (voted Precommit 0 (1 ∷ 1 ∷ 1 ∷ []) none)

j : Votes
j = record { counts = spoken; first_block = first_block; first_signature = none; second_target = none; second_number = none; second_signature = none }

-- with the second precommit of place 2
twice : Votes
twice =
    record {
      counts = set spoken (bit Precommit 2) 2;
      first_block = first_block;
      first_signature = none;
      second_target = set none (bit Precommit 2) 13;
      second_number = set none (bit Precommit 2) 2;
      second_signature = none;
    }

-- the first and the second precommit of a place
first : ℕ → ℕ
first p = entry (bit Precommit p) 0

second : ℕ → ℕ
second p = entry (bit Precommit p) 1

lists : (keep (wants j.counts first_block parents (Finalizing 1)) (by_voter Precommit 4) ≡ first 0 ∷ first 1 ∷ first 2 ∷ [])
    × (keep (wants twice.counts first_block parents (Finalizing 2)) (by_voter Precommit 4) ≡ first 0 ∷ first 1 ∷ first 2 ∷ second 2 ∷ [])
    × (keep (wants j.counts first_block parents (Finalizing 2)) (by_voter Precommit 4) ≡ first 0 ∷ first 1 ∷ [])
    × (keep (wants j.counts first_block parents (Of Prevote)) (by_voter Prevote 4)
    ≡ entry (bit Prevote 0) 0 ∷ entry (bit Prevote 1) 0 ∷ entry (bit Prevote 2) 0 ∷ entry (bit Prevote 3) 0 ∷ [])
    × (keep (wants twice.counts first_block parents (Of Precommit)) (by_voter Precommit 4) ≡ first 0 ∷ first 1 ∷ first 2 ∷ second 2 ∷ [])
unfolding keep wants by_voter within below voted none parents first_block spoken j twice first second
    bit index entry entry_index entry_pair layout.bit RUN
lists = (refl, refl, refl, refl, refl)

-- three Pc records, and what stood after them; one byte less is 14
case_j : (written (record_of j voters ids numbers) (first 0 ∷ first 1 ∷ first 2 ∷ []) (replicate 68 255)
    ≡ record {
      answer = Ok 66;
      bytes =
          80 ∷ 99 ∷ 1 ∷ 0 ∷ 0 ∷ 0 ∷ 12 ∷ 0 ∷ 0 ∷ 0 ∷ 2 ∷ 0 ∷ 0 ∷ 0 ∷ 0 ∷ 0 ∷ 0 ∷ 0 ∷ 0 ∷ 0 ∷ 0 ∷ 0 ∷
          80 ∷ 99 ∷ 2 ∷ 0 ∷ 0 ∷ 0 ∷ 12 ∷ 0 ∷ 0 ∷ 0 ∷ 2 ∷ 0 ∷ 0 ∷ 0 ∷ 0 ∷ 0 ∷ 0 ∷ 0 ∷ 0 ∷ 0 ∷ 0 ∷ 0 ∷
          80 ∷ 99 ∷ 3 ∷ 0 ∷ 0 ∷ 0 ∷ 11 ∷ 0 ∷ 0 ∷ 0 ∷ 1 ∷ 0 ∷ 0 ∷ 0 ∷ 0 ∷ 0 ∷ 0 ∷ 0 ∷ 0 ∷ 0 ∷ 0 ∷ 0 ∷
          255 ∷ 255 ∷ [];
    })
    × (written (record_of j voters ids numbers) (first 0 ∷ first 1 ∷ first 2 ∷ []) (replicate 65 255) ≡ record { answer = Err ShortBuffer; bytes = replicate 65 255 })
unfolding written in_a_row record_of pair_of recorded vote_bytes voters ids numbers voted none first_block spoken j first
    bit phase_at index index_place index_phase entry entry_index entry_pair layout.bit layout.place_of layout.phase_of RUN
case_j = (refl, refl)

-- the equivocator's two, in arrival order
case_j_twice : written (record_of twice voters ids numbers) (first 2 ∷ second 2 ∷ []) (replicate 44 0)
    ≡ record {
      answer = Ok 44;
      bytes =
          80 ∷ 99 ∷ 3 ∷ 0 ∷ 0 ∷ 0 ∷ 11 ∷ 0 ∷ 0 ∷ 0 ∷ 1 ∷ 0 ∷ 0 ∷ 0 ∷ 0 ∷ 0 ∷ 0 ∷ 0 ∷ 0 ∷ 0 ∷ 0 ∷ 0 ∷
          80 ∷ 99 ∷ 3 ∷ 0 ∷ 0 ∷ 0 ∷ 13 ∷ 0 ∷ 0 ∷ 0 ∷ 2 ∷ 0 ∷ 0 ∷ 0 ∷ 0 ∷ 0 ∷ 0 ∷ 0 ∷ 0 ∷ 0 ∷ 0 ∷ 0 ∷ [];
    }
unfolding written in_a_row record_of pair_of recorded vote_bytes voters ids numbers voted none first_block spoken twice first second
    bit phase_at index index_place index_phase entry entry_index entry_pair layout.bit layout.place_of layout.phase_of RUN
case_j_twice = refl
