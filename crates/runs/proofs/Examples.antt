-- Worked runs over a step that sums the weights of voters, ends its turn at Rt and refuses all else.
use mathlib.Core.List.{List, [], ◌∷◌, ◌++◌}
use mathlib.Core.Path.{◌≡◌, refl}
use Prim.Native.Nat.{ℕ, ◌+◌, ◌*◌}
use lib.ListN.{length, take, drop}
use Rattle.marks.specs.declared.Mark.{Mark}
use Rattle.marks.specs.declared.Mark.TheVariants.{Vt, Rt, Bk, Op, Pv, Pc}
use Rattle.marks.specs.declared.End.TheVariants.{Cut, Refused, Left}
use Rattle.marks.specs.Marks.{named, read, fields, after, word, long}
use Rattle.runs.specs.Run.{Next, goes, stops, leaves, ended, run, ran, counted}
use Rattle.runs.specs.Follow.{continued, carried}
use Rattle.runs.specs.Parsed.{entries, parsed, span, rest_after, tail, folded, tail_end, after_fold, within}
use Rattle.refusals.specs.declared.Refusal.TheVariants.{OutOfTurn, UnknownMark}

abbrev weigh : ℕ → Mark → List ℕ → Next ℕ
weigh total Vt fs = goes (total + long fs 4)
weigh total Rt fs = leaves
weigh total Bk fs = stops OutOfTurn
weigh total Op fs = stops OutOfTurn
weigh total Pv fs = stops OutOfTurn
weigh total Pc fs = stops OutOfTurn

-- voter 1 of weight 5, voter 2 of weight 7, root 10 of number 0, block 11 under 10
abbrev voters : List ℕ
voters =
    86 ∷ 116 ∷ 1 ∷ 0 ∷ 0 ∷ 0 ∷ 5 ∷ 0 ∷ 0 ∷ 0 ∷ 0 ∷ 0 ∷ 0 ∷ 0
    ∷ 86 ∷ 116 ∷ 2 ∷ 0 ∷ 0 ∷ 0 ∷ 7 ∷ 0 ∷ 0 ∷ 0 ∷ 0 ∷ 0 ∷ 0 ∷ 0 ∷ []

abbrev root : List ℕ
root = 82 ∷ 116 ∷ 10 ∷ 0 ∷ 0 ∷ 0 ∷ 0 ∷ 0 ∷ 0 ∷ 0 ∷ []

abbrev block : List ℕ
block = 66 ∷ 107 ∷ 11 ∷ 0 ∷ 0 ∷ 0 ∷ 10 ∷ 0 ∷ 0 ∷ 0 ∷ []

-- to the end of the bytes, with a tail of 3; a record of another turn; a record refused; an unknown mark
pub four_ends :
    (ran weigh 0 (voters ++ take 3 root) ≡ ended 12 2 (take 3 root) Cut)
    × (ran weigh 0 (voters ++ (root ++ block)) ≡ ended 12 2 (root ++ block) Left)
    × (ran weigh 0 (voters ++ (block ++ root)) ≡ ended 12 2 (block ++ root) (Refused OutOfTurn))
    × (ran weigh 0 (voters ++ (63 ∷ 63 ∷ [])) ≡ ended 12 2 (63 ∷ 63 ∷ []) (Refused UnknownMark))
unfolding named read fields after word long run ran
four_ends = (refl, refl, refl, refl)

-- the list of its records, its tail, and the records that end at or before bytes 27, 28 and 38
pub listed :
    (length (parsed (voters ++ (root ++ take 5 block))) ≡ 3) × (tail (voters ++ (root ++ take 5 block)) ≡ take 5 block)
    × (length (within 27 (parsed (voters ++ root))) ≡ 1) × (length (within 28 (parsed (voters ++ root))) ≡ 2)
    × (length (within 38 (parsed (voters ++ root))) ≡ 3)
unfolding named read fields after entries parsed span tail within
listed = (refl, refl, refl, refl, refl)

-- in two pieces, the first of which ends in the second voter's record
pub in_pieces : continued weigh (drop 20 (voters ++ root)) (ran weigh 0 (take 20 (voters ++ root))) ≡ ran weigh 0 (voters ++ root)
unfolding named read fields after word long run ran counted continued
in_pieces = refl

-- from the list of records: a refusal at the third, and an unknown mark behind them all
pub from_the_list :
    (after_fold (voters ++ (block ++ root)) (folded weigh 0 (parsed (voters ++ (block ++ root)))) ≡ ended 12 2 (block ++ root) (Refused OutOfTurn))
    × (after_fold (voters ++ (63 ∷ 63 ∷ [])) (folded weigh 0 (parsed (voters ++ (63 ∷ 63 ∷ [])))) ≡ ended 12 2 (63 ∷ 63 ∷ []) (Refused UnknownMark))
unfolding named read fields after word long entries parsed span rest_after tail folded tail_end after_fold
from_the_list = (refl, refl)

-- a larger step, which takes the root too and doubles what it holds: the voters' run inside it goes on there
abbrev doubled : ℕ → Mark → List ℕ → Next ℕ
doubled total Vt fs = goes (total + 2 * long fs 4)
doubled total Rt fs = goes (total + word fs 0)
doubled total Bk fs = stops OutOfTurn
doubled total Op fs = stops OutOfTurn
doubled total Pv fs = stops OutOfTurn
doubled total Pc fs = stops OutOfTurn

pub in_a_larger_step :
    (ran doubled 0 (voters ++ (root ++ block)) ≡ ended 34 3 block (Refused OutOfTurn))
    × (carried doubled (λ n. 2 * n) (ran weigh 0 (voters ++ (root ++ block))) ≡ ended 34 3 block (Refused OutOfTurn))
unfolding named read fields after word long run ran counted carried
in_a_larger_step = (refl, refl)
