-- Worked examples of the definitions, with document 01's "Numbers to hold it to".
use mathlib.Core.Bool.{Bool, true, false}
use mathlib.Core.List.{List, [], ◌∷◌}
use mathlib.Core.Path.{◌≡◌, refl}
use Prim.Native.Nat.{ℕ, zero, suc}
use lib.ListN.{replicate}
use Rattle.sizes.specs.Sizes.{VOTERS}
use Rattle.loops.specs.Loop.{first}
use Rattle.loops.specs.All.{all, any}
use Rattle.loops.specs.Sum.{sum}
use Rattle.columns.specs.Find.{find, contains}
use Rattle.columns.specs.Lists.{padded}
use Rattle.voter_pairs.specs.Voters.{enter, voters, weight_of}
use Rattle.voter_set.specs.declared.VoterSet.{VoterSet}
use Rattle.voter_set.specs.Voters.{laid, new}
use Rattle.voter_info.specs.Info.{info, look_up}
use Rattle.voter_set.specs.Lookup.{get, has, nth, nth_mod}
use Rattle.columns.specs.Blank.{blank}
use Rattle.voter_shape.specs.Sound.{rising, non_zero, placed, sound}
use Rattle.voter_set.specs.Good.{good}
use Rattle.std.specs.Prelude.{Some, None, Result, Ok, Err}
use Rattle.refusals.specs.declared.Refusal.{Refusal}
use Rattle.refusals.specs.declared.Refusal.TheVariants.{NoWeight, TooManyVoters, VoterList, WeightOverflow}

-- a zero weight is skipped, equal ids are summed, ids rise
gathered : voters (5 ∷ 3 ∷ 9 ∷ 3 ∷ []) (1 ∷ 2 ∷ 0 ∷ 40 ∷ []) 4 ≡ record { id = 3; weight = 42 } ∷ record { id = 5; weight = 1 } ∷ []
unfolding voters enter
gathered = refl

given : weight_of (5 ∷ 3 ∷ 9 ∷ 3 ∷ []) (1 ∷ 2 ∷ 0 ∷ 40 ∷ []) 4 3 ≡ 42
unfolding sum
given = refl

-- four voters 1 to 4 of weight 1, in any order: round 7's primary is voter 4
four : (new (3 ∷ 1 ∷ 4 ∷ 2 ∷ []) (1 ∷ 1 ∷ 1 ∷ 1 ∷ []) ≡ Ok (laid (voters (3 ∷ 1 ∷ 4 ∷ 2 ∷ []) (1 ∷ 1 ∷ 1 ∷ 1 ∷ []) 4) 4))
    × (nth_mod (laid (voters (3 ∷ 1 ∷ 4 ∷ 2 ∷ []) (1 ∷ 1 ∷ 1 ∷ 1 ∷ []) 4) 4) 7 ≡ Some (4, (record { position = 3; weight = record { 0 = 1 } })))
    × (nth (laid (voters (3 ∷ 1 ∷ 4 ∷ 2 ∷ []) (1 ∷ 1 ∷ 1 ∷ 1 ∷ []) 4) 4) 4 ≡ None)
unfolding new voters enter sum padded nth_mod nth info
four = (refl, refl, refl)

asked : (new (5 ∷ 3 ∷ 9 ∷ 3 ∷ []) (1 ∷ 2 ∷ 0 ∷ 40 ∷ []) ≡ Ok (laid (voters (5 ∷ 3 ∷ 9 ∷ 3 ∷ []) (1 ∷ 2 ∷ 0 ∷ 40 ∷ []) 4) 43))
    × (get (laid (voters (5 ∷ 3 ∷ 9 ∷ 3 ∷ []) (1 ∷ 2 ∷ 0 ∷ 40 ∷ []) 4) 43) 3 ≡ Some (record { position = 0; weight = record { 0 = 42 } }))
    × (get (laid (voters (5 ∷ 3 ∷ 9 ∷ 3 ∷ []) (1 ∷ 2 ∷ 0 ∷ 40 ∷ []) 4) 43) 9 ≡ None)
    × (has (laid (voters (5 ∷ 3 ∷ 9 ∷ 3 ∷ []) (1 ∷ 2 ∷ 0 ∷ 40 ∷ []) 4) 43) 5 ≡ true)
unfolding new voters enter sum padded look_up find contains first any info
asked = (refl, refl, refl, refl)

-- the largest total, and one more
largest : (new (2 ∷ 1 ∷ []) (18446744073709551614 ∷ 1 ∷ []) ≡ Ok (laid (voters (2 ∷ 1 ∷ []) (18446744073709551614 ∷ 1 ∷ []) 2) 18446744073709551615))
    × ((laid (voters (2 ∷ 1 ∷ []) (18446744073709551614 ∷ 1 ∷ []) 2) 18446744073709551615).threshold ≡ 12297829382473034411)
    × (new (2 ∷ 1 ∷ []) (18446744073709551615 ∷ 1 ∷ []) ≡ Err WeightOverflow)
unfolding new voters enter sum padded
largest = (refl, refl, refl)

refusals : (new (1 ∷ []) [] ≡ Err VoterList) × (new (replicate 257 1) (replicate 257 1) ≡ Err VoterList)
    × (new [] [] ≡ Err NoWeight) × (new (1 ∷ 2 ∷ []) (0 ∷ 0 ∷ []) ≡ Err NoWeight)
unfolding new voters enter sum padded
refusals = (refl, refl, refl, refl)

-- 64 ids pass, 65 give 4
down : ℕ → List ℕ
down zero = []
down (suc n) = n ∷ down n

made : Result VoterSet Refusal → Bool
made (Ok s) = true
made (Err e) = false

sixty_four : (made (new (down 64) (replicate 64 1)) ≡ true) × (new (down 65) (replicate 65 1) ≡ Err TooManyVoters)
    × (made (new (0 ∷ down 64) (replicate 65 1)) ≡ true) × (made (new (99 ∷ down 64) (0 ∷ replicate 64 1)) ≡ true)
unfolding new voters enter sum padded down made
sixty_four = (refl, refl, refl, refl)

-- the shape rules: a set of `new`; the same with the ids turned round, with a weight gone, with another total
shaped : (new (2 ∷ 1 ∷ []) (5 ∷ 6 ∷ []) ≡ Ok (laid (voters (2 ∷ 1 ∷ []) (5 ∷ 6 ∷ []) 2) 11))
    × (good (laid (voters (2 ∷ 1 ∷ []) (5 ∷ 6 ∷ []) 2) 11) ≡ true)
    × (sound (padded VOTERS (2 ∷ 1 ∷ [])) (padded VOTERS (6 ∷ 5 ∷ [])) 2 8 11 ≡ false)
    × (sound (padded VOTERS (1 ∷ 2 ∷ [])) (padded VOTERS (11 ∷ 0 ∷ [])) 2 8 11 ≡ false)
    × (sound (padded VOTERS (1 ∷ 2 ∷ [])) (padded VOTERS (6 ∷ 5 ∷ [])) 2 8 12 ≡ false)
unfolding new voters enter sum padded sound placed rising non_zero blank all
shaped = (refl, refl, refl, refl, refl)
