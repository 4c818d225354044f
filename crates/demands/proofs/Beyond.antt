-- Document 01's four voters and its tree of case J, with 14 under 12. Prevotes 1, 2, 4 for 12 and 3 for 13; precommits 1 for 14, 2 and 4
-- for 11, 3 for 13: the estimate is 11, and the round completable. Then 2 and 4 equivocate, weight 2 above F, which is 1: the estimate
-- moves to 12, and 14 has become possible.
use mathlib.Core.Bool.{Bool, true, false, cond}
use mathlib.Core.List.{List, [], ◌∷◌}
use mathlib.Core.Path.{◌≡◌, refl, sym, ap, subst, ◌∙◌}
use Prim.Native.Nat.{ℕ, ◌≤◌}
use native.Mathlib.Omega.{arith}
use lib.Dec.{T}
use Rattle.loops.specs.Loop.{first}
use Rattle.loops.specs.All.{all, any}
use Rattle.loops.specs.Sum.{sum}
use Rattle.columns.specs.Find as columns
use Rattle.columns.specs.Lists.{padded}
use Rattle.columns.specs.Blank.{blank}
use Rattle.weights.specs.Weights.{most}
use Rattle.grandpa.specs.Tree.{within, below}
use Rattle.grandpa.specs.Answers.{Told, told, told_from, ghost_of, highest_of, first_of, search_up, finalized_of, estimate_of, completable_of}
use Rattle.voter_pairs.specs.Voters.{voters, enter}
use Rattle.voter_shape.specs.Sound.{rising, non_zero, placed, sound}
use Rattle.voter_info.specs.Info.{look_up, info}
use Rattle.voter_set.specs.declared.VoterSet.{VoterSet}
use Rattle.voter_set.specs.Voters as set
use Rattle.blocks.specs.declared.BlockTable.{BlockTable}
use Rattle.blocks.specs.Table.{Stands}
use Rattle.blocks.specs.Add.{place_of, append, step}
use Rattle.block_shape.specs.Shape.{sized, count_fits, is_child, is_tree, are_distinct, clear_at, is_clear, are_clear, tabled}
use Rattle.block_table.specs.Add as blocks
use Rattle.layouts.specs.Layout as layout
use Rattle.context.specs.declared.Phase.{Phase}
use Rattle.context.specs.declared.Phase.TheVariants.{Prevote, Precommit}
use Rattle.context.specs.Votes.{bit}
use Rattle.nodes.specs.Nodes.{col}
use Rattle.tracker.specs.Recorded.{recorded, cast}
use Rattle.judging.specs.Judge.{judge_first, judge}
use Rattle.importing.specs.Import as parts
use Rattle.importing.specs.Import.{Frame, Held, import, opened_held}
use Rattle.round.specs.declared.Round.{Round}
use Rattle.round.specs.Shape.{frame, held}
use Rattle.round.specs.Calls.{nobody, opened, new}
use Rattle.round.specs.Ask as ask
use Rattle.round_laws.specs.Later.{Later, here, Reached, answers_of}
use Rattle.round_laws.proofs.Keeps.{opened_again, new_shaped}
use Rattle.round_laws.proofs.Lasting.{reached_later}
use Rattle.demands.specs.First.{Keeps}
use Rattle.demands.specs.Second.{shown}
use Rattle.demands.specs.Third.{Beyond}
use Rattle.demands.proofs.Shown.{estimate_shown, completable_shown}
use Rattle.demands.proofs.Meant.{keeps}
use Rattle.demands.proofs.Ballots.{Ballot, after, taken, after_later, Became, after_becomes, told_of, twice_weight, became_told, became_few}
use Rattle.std.specs.Prelude.{Option, Some, Result, Ok, Err}
use Rattle.refusals.specs.declared.Refusal.{Refusal}

abbrev pub made : Result VoterSet Refusal → VoterSet
made (Ok v) = v
made (Err e) = nobody

abbrev pub four : VoterSet
four = made (set.new (1 ∷ 2 ∷ 3 ∷ 4 ∷ []) (1 ∷ 1 ∷ 1 ∷ 1 ∷ []))

abbrev pub tree : BlockTable
tree = (blocks.add (blocks.add (blocks.add (blocks.add (blocks.opened 10 0) 11 10).table 12 11).table 13 11).table 14 12).table

abbrev pub stage : Frame
stage = parts.framed 7 four tree 0

abbrev pub vote : Phase → ℕ → ℕ → ℕ → Ballot
vote phase signer target number = record { phase = phase; signer = signer; pair = record { target = target; number = number; signature = 0 } }

abbrev pub votes : List Ballot
votes =
    vote Prevote 1 12 2
    ∷ vote Prevote 2 12 2
    ∷ vote Prevote 3 13 2
    ∷ vote Prevote 4 12 2
    ∷ vote Precommit 1 14 3
    ∷ vote Precommit 2 11 1
    ∷ vote Precommit 3 13 2
    ∷ vote Precommit 4 11 1
    ∷ []

abbrev seconds : List Ballot
seconds = vote Precommit 2 12 2 ∷ vote Precommit 4 13 2 ∷ []

abbrev pub then : Held
then = taken votes stage (opened_held 0)

abbrev now : Held
now = taken seconds stage then

abbrev says : Option ℕ → Option ℕ → Option ℕ → Bool → Told
says g e f c = record { ghost = g; finalized = f; estimate = e; completable = c }

-- what the definitions tell, and the weight of the equivocators
pub computed : (told_of stage then ≡ says (Some 2) (Some 1) (Some 1) true) × (told_of stage now ≡ says (Some 2) (Some 2) (Some 2) false)
    × (twice_weight Prevote stage then ≡ 0) × (twice_weight Prevote stage now ≡ 0) × (twice_weight Precommit stage now ≡ 2)
unfolding
    told told_from ghost_of highest_of first_of search_up finalized_of estimate_of completable_of below within sum all any taken layout.RUN layout.bit layout.index bit import judge
    judge_first look_up info recorded cast place_of columns.find columns.contains first set.new voters enter padded sized count_fits is_child
    is_tree are_distinct clear_at is_clear are_clear tabled blocks.opened append step blocks.add
computed = (refl, refl, refl, refl, refl)

pub totals : four.total ≡ 4
unfolding set.new voters enter padded sum
totals = refl

pub opens : ((new 7 four tree 10).answer ≡ Ok tt) × ((new 7 four tree 10).round ≡ opened 7 four tree 0)
unfolding
    new sound placed rising non_zero blank sum all any place_of columns.find columns.contains first set.new voters enter padded sized count_fits
    is_child is_tree are_distinct clear_at is_clear are_clear tabled blocks.opened append step blocks.add
opens = (refl, refl)

-- the rounds that the calls make
abbrev pub start : Round
start = (new 7 four tree 10).round

abbrev pub earlier : Round
earlier = after votes start

abbrev later : Round
later = after seconds earlier

pub fits : four.total ≤ most
fits = omega (arith, totals)

pub reached : Reached earlier
reached =
    record { number = 7; voters = four; table = tree; base = 10; fits = fits; opens = opens.0; calls = after_later start votes start here }

calls : Later earlier later
calls = after_later earlier seconds earlier here

pub framed : frame start ≡ stage
unfolding opened
framed = ap frame opens.1

pub was : Became votes stage (opened_held 0) earlier
was =
    after_becomes votes start stage (opened_held 0) (subst (λ (x : Frame). x.voters.total ≤ most) (sym framed) fits)
    (new_shaped 7 four tree 10 fits opens.0) framed (ap held opens.1 ∙ opened_again 7 four tree 0)

is : Became seconds stage then later
is =
    after_becomes seconds earlier stage then (subst (λ (x : Frame). x.voters.total ≤ most) (sym was.0) fits) (keeps earlier reached) was.0
    was.1

pub told_then : answers_of earlier ≡ says (Some 2) (Some 1) (Some 1) true
told_then = became_told earlier stage then was.0 was.1 reached (omega (arith, totals)) (omega (arith, computed.2)) ∙ computed.0

told_now : answers_of later ≡ says (Some 2) (Some 2) (Some 2) false
told_now =
    became_told later stage now is.0 is.1 (reached_later earlier reached later calls) (omega (arith, totals)) (omega (arith, computed.3))
    ∙ computed.1

-- blocks by id and number
named : (r : Round) → frame r ≡ stage → (shown r (Some 1) ≡ Ok (Some (11, 1))) × (shown r (Some 2) ≡ Ok (Some (12, 2)))
unfolding
    place_of columns.find columns.contains first all any sized count_fits is_child is_tree are_distinct clear_at is_clear are_clear tabled blocks.opened append
    step blocks.add
named r e =
    subst (λ (f : Frame).
    ◌≡◌ {A = Result (Option (ℕ × ℕ)) Refusal} (Ok (Some (col f.table.ids 1, col f.table.numbers 1))) (Ok (Some (11, 1)))
    × ◌≡◌ {A = Result (Option (ℕ × ℕ)) Refusal} (Ok (Some (col f.table.ids 2, col f.table.numbers 2))) (Ok (Some (12, 2)))) (sym e) (refl, refl)

stands : (f : Frame) → f ≡ stage → Stands f.table 11 1 × Stands f.table 12 2 × T (below (col f.table.parents) 1 2)
unfolding
    place_of columns.find columns.contains first all any sized count_fits is_child is_tree are_distinct clear_at is_clear are_clear tabled blocks.opened append
    step blocks.add below within
stands f e =
    subst (λ (x : Frame). Stands x.table 11 1 × Stands x.table 12 2 × T (below (col x.table.parents) 1 2)) (sym e)
    (record { inside = omega arith; named = refl }, record { inside = omega arith; named = refl }, tt)

keeps_later : Keeps later
keeps_later = keeps later (reached_later earlier reached later calls)

estimate_then : ask.estimate earlier ≡ Ok (Some (11, 1))
estimate_then = estimate_shown earlier (keeps earlier reached) ∙ ap (λ (x : Told). shown earlier x.estimate) told_then ∙ (named earlier was.0).0

estimate_now : ask.estimate later ≡ Ok (Some (12, 2))
estimate_now = estimate_shown later keeps_later ∙ ap (λ (x : Told). shown later x.estimate) told_now ∙ (named later is.0).1

pub premise_needed : Beyond
premise_needed =
    record {
      earlier = earlier;
      later = later;
      reached = reached;
      calls = calls;
      above = λ few. omega (arith, became_few later stage now is.0 is.1 Precommit few, totals, computed.4);
      was_completable = completable_shown earlier (keeps earlier reached) ∙ ap (λ (x : Told). Ok x.completable) told_then;
      not_completable = completable_shown later keeps_later ∙ ap (λ (x : Told). Ok x.completable) told_now;
      was_estimate = estimate_then;
      estimate = estimate_now;
      away = record {
        id = 11;
        number = 1;
        is_upper = estimate_then;
        id_below = 12;
        number_below = 2;
        is_lower = estimate_now;
        place = 1;
        place_below = 2;
        stands = (stands (frame later) is.0).0;
        stands_below = (stands (frame later) is.0).1;
        under = (stands (frame later) is.0).2;
      };
    }
