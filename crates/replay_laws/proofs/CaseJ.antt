-- Document 01, "The journal" and "Numbers to hold it to": case J and its variants, computed from their bytes by the definitions.
use mathlib.Core.Bool.{true, false}
use mathlib.Core.List.{List, [], ◌∷◌, ◌++◌}
use mathlib.Core.Path.{◌≡◌, refl}
use Prim.Native.Nat.{ℕ}
use lib.ListN.{length}
use Rattle.context.specs.declared.Phase.TheVariants.{Prevote, Precommit}
use Rattle.records.specs.Bytes.{little, vote_bytes}
use Rattle.round.specs.declared.Round.{Round}
use Rattle.loops.specs.All.{all, any}
use Rattle.loops.specs.Listing.{times, keep, some_of, fold, front}
use Rattle.loops.specs.Loop.{first}
use Rattle.loops.specs.Loop as loops
use Rattle.loops.specs.Sum.{sum}
use Rattle.columns.specs.Find.{find, contains}
use Rattle.columns.specs.Lists.{padded, shift}
use Rattle.bitfield.specs.Bits.{in_word, has, put, words, joined, blank, mask, every}
use Rattle.grandpa.specs.Answers.{search_up, first_of, finalized_of, estimate_of, completable_of, told_from}
use Rattle.grandpa.specs.Tree.{climb, within, below}
use Rattle.voter_pairs.specs.Voters.{voters}
use Rattle.voter_pairs.specs.Voters as pairs
use Rattle.voter_info.specs.Info.{info, look_up}
use Rattle.voter_set.specs.Voters.{new}
use Rattle.blocks.specs.Add.{place_of, append, step}
use Rattle.block_table.specs.Add as table
use Rattle.context.specs.Votes.{weight_of, voters_heard_in}
use Rattle.context.specs.Votes as votes
use Rattle.layouts.specs.Layout as layout
use Rattle.graph.specs.Ghost.{find_ancestor, towards, first_in, meets, merge, settle, following, find_ghost}
use Rattle.graph.specs.Graph.{join_of, tally, children, relist, add_node}
use Rattle.graph.specs.Graph as graph
use Rattle.graph.specs.Search.{hold_from, lead, hold, note, containing, until, nearest}
use Rattle.nodes.specs.Nodes.{placed, held_from, held, found, listed_under, passes}
use Rattle.vote_insert.specs.Insert.{set_all, marked_from, marked, inserted}
use Rattle.vote_insert.specs.Insert as insert
use Rattle.tracker.specs.Recorded.{recorded, cast}
use Rattle.answers.specs.Update.{phase_ghost, update}
use Rattle.judging.specs.Judge.{judge_first, judge}
use Rattle.importing.specs.Import.{import}
use Rattle.marks.specs.Marks.{named, read, fields, after, word, long}
use Rattle.runs.specs.Run.{ran}
use Rattle.runs.specs.Run as runs
use Rattle.pairing.specs.Pairing.{paired}
use Rattle.growing.specs.Growing.{grown}
use Rattle.growing.specs.Growing as growing
use Rattle.voting.specs.Voting.{counted}
use Rattle.voting.specs.Voting as voting
use Rattle.turns.specs.Turns.{rooted, based, took}
use Rattle.journal.specs.Journal.{round_of, run_from}
use Rattle.feeding.specs.Feeding.{kept_rest, after_run, replayed}
use Rattle.std.specs.Prelude.{Some, None}

-- the records by their fields
abbrev vt : ℕ → List ℕ
vt voter = 86 ∷ 116 ∷ (little 4 voter ++ little 8 1)

abbrev rt : ℕ → ℕ → List ℕ
rt root number = 82 ∷ 116 ∷ (little 4 root ++ little 4 number)

abbrev bk : ℕ → ℕ → List ℕ
bk block parent = 66 ∷ 107 ∷ (little 4 block ++ little 4 parent)

abbrev op : ℕ → ℕ → List ℕ
op round base = 79 ∷ 112 ∷ (little 8 round ++ little 4 base)

abbrev pv : ℕ → ℕ → ℕ → List ℕ
pv voter target number = vote_bytes Prevote voter (record { target = target; number = number; signature = 0 })

abbrev pc : ℕ → ℕ → ℕ → List ℕ
pc voter target number = vote_bytes Precommit voter (record { target = target; number = number; signature = 0 })

-- voters 1 to 4 of weight 1; root 10 number 0; 11 under 10; 12 and 13 under 11; round 7 on base 10
abbrev opening : List ℕ
opening = vt 1 ++ (vt 2 ++ (vt 3 ++ (vt 4 ++ (rt 10 0 ++ (bk 11 10 ++ (bk 12 11 ++ (bk 13 11 ++ op 7 10)))))))

-- prevotes 1, 2, 4 for 12 and 3 for 13, in voter order
abbrev prevotes : List ℕ
prevotes = pv 1 12 2 ++ (pv 2 12 2 ++ (pv 3 13 2 ++ pv 4 12 2))

-- precommits 1 and 2 for 12, 3 for 11
abbrev case_j : List ℕ
case_j = opening ++ (prevotes ++ (pc 1 12 2 ++ (pc 2 12 2 ++ pc 3 11 1)))

abbrev round_after : List ℕ → Round
round_after bs = (replayed bs).journal.round

-- after three prevotes: g 11, estimate 11, final none, not completable
abbrev three_prevotes : List ℕ
three_prevotes = opening ++ (pv 1 12 2 ++ (pv 2 12 2 ++ pv 3 13 2))

-- J with voter 3's second precommit for 13: final 12
abbrev second_precommit : List ℕ
second_precommit = case_j ++ pc 3 13 2

-- J's tree and prevotes; precommits 1 for 12, 2 for 11, 3 for 13: estimate 12; then 4 for 11: estimate 11, completable
abbrev three_precommits : List ℕ
three_precommits = opening ++ (prevotes ++ (pc 1 12 2 ++ (pc 2 11 1 ++ pc 3 13 2)))

abbrev four_precommits : List ℕ
four_precommits = three_precommits ++ pc 4 11 1

-- blocks by their places: 11 is 1, 12 is 2
pub document_01 :
    (length case_j ≡ 264)
    × ((replayed case_j).records ≡ 16)
    × ((replayed case_j).rest.count ≡ 0)
    × ((round_after case_j).heard ≡ record { prevote = 4; precommit = 3 })
    × ((round_after case_j).answers ≡ record { prevote = Some 2; precommit = None; finalized = Some 1; estimate = Some 2; completable = true })
    × ((round_after three_prevotes).answers ≡ record { prevote = Some 1; precommit = None; finalized = None; estimate = Some 1; completable = false })
    × ((round_after second_precommit).answers.finalized ≡ Some 2)
    × ((round_after three_precommits).answers.estimate ≡ Some 2)
    × ((round_after four_precommits).answers.estimate ≡ Some 1)
    × ((round_after four_precommits).answers.completable ≡ true)
unfolding
    vote_bytes all any times keep some_of fold front loops.run first sum find contains padded shift in_word has put words joined blank mask every search_up first_of finalized_of estimate_of completable_of told_from climb within below pairs.enter voters info look_up new place_of append step table.opened layout.RUN layout.bit layout.index votes.bit votes.voted weight_of voters_heard_in find_ancestor towards first_in meets merge settle following find_ghost join_of tally children graph.enter relist add_node graph.mark graph.insert hold_from lead hold note containing until nearest placed held_from held found listed_under passes insert.opened set_all insert.added marked_from marked inserted recorded cast phase_ghost update judge_first judge import named read fields after word long runs.run ran paired growing.added grown counted voting.voted rooted based took round_of run_from kept_rest after_run replayed
document_01 = (refl, refl, refl, refl, refl, refl, refl, refl, refl, refl)
