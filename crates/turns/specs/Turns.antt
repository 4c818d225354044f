-- A journal's turns and its replay. Document 01, "The journal": zero or more Vt, one Rt (the voter set is made here), Bk, one Op, then
-- Bk, Pv and Pc mixed. "Refusal numbers": 18 out of turn; 1, the 257th Vt; 2, 3 and 4 at the Rt; 5 to 8 of a block; 10 at the Op; 11 to
-- 13 of a vote.
use Rattle.std.specs.Prelude.{List, ℕ, take, replicate, Result, Ok, Err}
use Rattle.sizes.specs.Sizes.{PAIRS}
use Rattle.voter_set.specs.declared.VoterSet.{VoterSet}
use Rattle.voter_set.specs.Voters.{new}
use Rattle.blocks.specs.declared.BlockTable.{BlockTable}
use Rattle.blocks.specs.Add.{place_of, on_place}
use Rattle.block_table.specs.Add.{opened}
use Rattle.importing.specs.Import.{framed, opened_held}
use Rattle.marks.specs.declared.Mark.{Mark}
use Rattle.marks.specs.Marks.{word, long}
use Rattle.runs.specs.Run.{Next, goes, stops, on_next, Run, ran}
use Rattle.pairing.specs.declared.Pairs.{Pairs}
use Rattle.pairing.specs.Pairing.{paired}
use Rattle.growing.specs.Growing.{grown}
use Rattle.voting.specs.Voting.{Voting, both, voted}
use Rattle.refusals.specs.declared.Refusal.{Refusal}
use Rattle.refusals.specs.declared.Refusal.TheVariants.{OutOfTurn, UnknownBase}

-- what a journal has told so far, by turn: voters' pairs, then voters and blocks, then a round
pub data Journal : Type 0 where
  pairing : Pairs → Journal
  growing : VoterSet → BlockTable → Journal
  voting : Voting → Journal

-- the Rt: the voter set is made of the pairs, and the root is the first block
abbrev pub seated : BlockTable → Result VoterSet Refusal → Next Journal
seated table (Ok voters) = goes (growing voters table)
seated table (Err n) = stops n

unfoldable pub rooted : Pairs → List ℕ → Next Journal
rooted p fs = seated (opened (word fs 0) (word fs 4)) (new (take p.count p.ids) (take p.count p.weights))

-- the Op: a round with no votes on a block of the table
abbrev pub opened_round : ℕ → VoterSet → BlockTable → ℕ → Voting
opened_round number voters table base = both (framed number voters table base) (opened_held base)

unfoldable pub based : VoterSet → BlockTable → List ℕ → Next Journal
based voters table fs =
    on_place (place_of table.ids table.count (word fs 8)) (λ b. goes (voting (opened_round (long fs 0) voters table b))) (stops UnknownBase)

-- a record, by the turn
unfoldable pub took : Journal → Mark → List ℕ → Next Journal
took (pairing p) m fs = on_next (paired p m fs) (λ q. goes (pairing q)) stops (rooted p fs)
took (growing v t) m fs = on_next (grown t m fs) (λ u. goes (growing v u)) stops (based v t fs)
took (voting r) m fs = on_next (voted r m fs) (λ s. goes (voting s)) stops (stops OutOfTurn)

-- before the first record
abbrev pub no_pairs : Pairs
no_pairs = record { ids = replicate PAIRS 0; weights = replicate PAIRS 0; count = 0 }

-- a journal's bytes: the records up to the first refusal, how many were taken, the bytes after them, and why no more are taken
unfoldable pub replayed : List ℕ → Run Journal
replayed bs = ran took (pairing no_pairs) bs
