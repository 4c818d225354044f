-- Lists of marked places. Document 01, "Shape rules": every node but the base listed once; unused places 0.
use Rattle.std.specs.Prelude.{Bool, false, not, ◌&&◌, List, ℕ, get_or, set}
use Rattle.loops.specs.All.{all}
use Rattle.loops.specs.Listing.{fold, front}
use Rattle.columns.specs.Blank.{blank}

-- marks, without those that f gives for the places of a list
unfoldable pub struck : (ℕ → ℕ) → List ℕ → List Bool → List Bool
struck f places marks = fold (λ x m. set m (f x) false) places marks

-- the places of a list struck out themselves
abbrev pub unmarked : List ℕ → List Bool → List Bool
unmarked places marks = struck (λ x. x) places marks

unfoldable pub none_left : ℕ → List Bool → Bool
none_left size marks = all size (λ k. not (get_or marks k false))

-- the k-th place is marked and not there before
abbrev pub fresh : List ℕ → List Bool → ℕ → Bool
fresh places marks k = get_or (unmarked (front k places) marks) (get_or places k 0) false

-- the first n places are the marked ones of a number of places, once each
unfoldable pub once_each : ℕ → List ℕ → ℕ → List Bool → Bool
once_each size places n marks = all n (fresh places marks) && none_left size (unmarked (front n places) marks)

-- and the rest of the column is 0
unfoldable pub laid : ℕ → List ℕ → ℕ → List Bool → Bool
laid size places n marks = once_each size places n marks && blank places n size
