-- Worked examples of the definitions.
use mathlib.Core.Bool.{true, false}
use mathlib.Core.List.{[], ◌∷◌}
use mathlib.Core.Path.{◌≡◌, refl}
use Rattle.loops.specs.Loop.{first}
use Rattle.loops.specs.All.{any}
use Rattle.columns.specs.Find.{find, contains}
use Rattle.columns.specs.Lists.{padded, shift}
use Rattle.std.specs.Prelude.{Some, None}

-- 3 stands at places 1 and 3, 0 at none; the count may be less than the column, or more
found : (find (5 ∷ 3 ∷ 9 ∷ 3 ∷ []) 4 3 ≡ Some 1) × (find (5 ∷ 3 ∷ 9 ∷ 3 ∷ []) 2 9 ≡ None) × (find (5 ∷ 3 ∷ 9 ∷ 3 ∷ []) 7 0 ≡ None)
unfolding find first
found = (refl, refl, refl)

contained : (contains (5 ∷ 3 ∷ 9 ∷ []) 3 9 ≡ true) × (contains (5 ∷ 3 ∷ 9 ∷ []) 2 9 ≡ false)
unfolding contains any
contained = (refl, refl)

in_four : padded 4 (7 ∷ 8 ∷ []) ≡ 7 ∷ 8 ∷ 0 ∷ 0 ∷ []
unfolding padded
in_four = refl

-- room for 9 at place 1
one_more : shift 3 1 9 (5 ∷ 6 ∷ 7 ∷ 0 ∷ []) ≡ 5 ∷ 9 ∷ 6 ∷ 7 ∷ []
unfolding shift
one_more = refl
