-- The shape rules of a voter set in lent columns, as a test. Document 01, "Refusal numbers", "Shape rules": counts within
-- sizes; voter ids rising, weights non_zero, total and T as above; unused places 0.
use Rattle.std.specs.Prelude.{Bool, not, ◌&&◌, ◌||◌, List, ℕ, ◌-◌, eqb, leb, ltb, length, get_or}
use Rattle.sizes.specs.Sizes.{VOTERS}
use Rattle.loops.specs.All.{all}
use Rattle.columns.specs.Blank.{blank}
use Rattle.totals.specs.Totals.{total_of}
use Rattle.grandpa.specs.Weight.{threshold}

-- each of the first n numbers is above the one before
unfoldable pub rising : List ℕ → ℕ → Bool
rising column n = all n (λ k. eqb k 0 || ltb (get_or column (k - 1) 0) (get_or column k 0))

-- none of the first n numbers is 0
unfoldable pub non_zero : List ℕ → ℕ → Bool
non_zero column n = all n (λ k. not (eqb (get_or column k 0) 0))

-- counts within sizes, ids rising, weights non_zero, unused places 0
unfoldable pub placed : List ℕ → List ℕ → ℕ → Bool
placed ids weights count =
    eqb (length ids) VOTERS && (eqb (length weights) VOTERS && (leb count VOTERS
    && (rising ids count && (non_zero weights count && (blank ids count VOTERS && blank weights count VOTERS)))))

-- and total and T as above
unfoldable pub sound : List ℕ → List ℕ → ℕ → ℕ → ℕ → Bool
sound ids weights count t total =
    placed ids weights count && (eqb total (total_of weights) && eqb t (threshold total))
