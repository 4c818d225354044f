-- A journal of one voter and one block, by computing: it has a round; without its last byte it has none, and 13 bytes are left; an unknown
-- mark behind it is refused with UnknownMark after three records, a second Op with 18.
use mathlib.Core.List.{List, [], ◌∷◌, ◌++◌}
use mathlib.Core.Path.{◌≡◌, refl}
use Prim.Native.Nat.{ℕ}
use lib.ListN.{take}
use Rattle.loops.specs.Loop.{first}
use Rattle.loops.specs.Sum.{sum}
use Rattle.columns.specs.Find.{find}
use Rattle.columns.specs.Lists.{padded}
use Rattle.voter_pairs.specs.Voters.{enter, voters}
use Rattle.voter_set.specs.Voters.{new}
use Rattle.blocks.specs.Add.{place_of}
use Rattle.block_table.specs.Add.{opened}
use Rattle.marks.specs.Marks.{named, read, fields, after, word, long}
use Rattle.runs.specs.Run.{run, ran}
use Rattle.pairing.specs.Pairing.{paired}
use Rattle.growing.specs.Growing.{grown}
use Rattle.voting.specs.Voting.{voted}
use Rattle.turns.specs.Turns.{rooted, based, took}
use Rattle.journal.specs.declared.Turn.TheVariants.{Blocks, Votes}
use Rattle.journal.specs.Journal.{round_of, run_from}
use Rattle.feeding.specs.Feeding.{kept_rest, after_run, replayed}
use Rattle.std.specs.Prelude.{Ok, Err}
use Rattle.refusals.specs.declared.Refusal.TheVariants.{NoWeight, OutOfTurn, UnknownMark}

-- voter 1 of weight 1; root 10, number 0; round 7 on base 10
abbrev vt : List ℕ
vt = 86 ∷ 116 ∷ 1 ∷ 0 ∷ 0 ∷ 0 ∷ 1 ∷ 0 ∷ 0 ∷ 0 ∷ 0 ∷ 0 ∷ 0 ∷ 0 ∷ []

abbrev rt : List ℕ
rt = 82 ∷ 116 ∷ 10 ∷ 0 ∷ 0 ∷ 0 ∷ 0 ∷ 0 ∷ 0 ∷ 0 ∷ []

abbrev op : List ℕ
op = 79 ∷ 112 ∷ 7 ∷ 0 ∷ 0 ∷ 0 ∷ 0 ∷ 0 ∷ 0 ∷ 0 ∷ 10 ∷ 0 ∷ 0 ∷ 0 ∷ []

abbrev whole : List ℕ
whole = vt ++ (rt ++ op)

pub has_round : ((replayed whole).journal.turn ≡ Votes) × ((replayed whole).journal.round.number ≡ 7)
    × ((replayed whole).journal.round.context.voters.total ≡ 1) × ((replayed whole).records ≡ 3) × ((replayed whole).stop ≡ Ok tt)
unfolding
    named read fields after word long run ran paired grown voted rooted based took new voters enter sum padded place_of find first opened round_of run_from
    kept_rest after_run replayed
has_round = (refl, refl, refl, refl, refl)

pub cut : ((replayed (take 37 whole)).journal.turn ≡ Blocks) × ((replayed (take 37 whole)).records ≡ 2) × ((replayed (take 37 whole)).rest.count ≡ 13)
    × ((replayed (take 37 whole)).stop ≡ Ok tt)
unfolding
    named read fields after word long run ran paired grown voted rooted based took new voters enter sum padded place_of find first opened round_of run_from
    kept_rest after_run replayed
cut = (refl, refl, refl, refl)

pub refused : ((replayed (whole ++ (88 ∷ 120 ∷ []))).stop ≡ Err UnknownMark) × ((replayed (whole ++ (88 ∷ 120 ∷ []))).records ≡ 3)
    × ((replayed (whole ++ op)).stop ≡ Err OutOfTurn) × ((replayed (whole ++ op)).records ≡ 3) × ((replayed (rt ++ op)).stop ≡ Err NoWeight)
    × ((replayed (rt ++ op)).records ≡ 0)
unfolding
    named read fields after word long run ran paired grown voted rooted based took new voters enter sum padded place_of find first opened round_of run_from
    kept_rest after_run replayed
refused = (refl, refl, refl, refl, refl, refl)
