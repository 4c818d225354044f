-- Columns by place. Document 01, "Forms that must change": arrays with counts.
use Rattle.std.specs.Prelude.{Bool, false, List, [], ℕ, pred, ◌≤◌, get_or}

-- columns as functions of a place
abbrev pub col : List ℕ → ℕ → ℕ
col xs k = get_or xs k 0

abbrev pub flag : List Bool → ℕ → Bool
flag xs k = get_or xs k false

abbrev pub row : List (List ℕ) → ℕ → List ℕ
row xs k = get_or xs k []

-- what a column gives for a place is earlier
abbrev pub Falls : List ℕ → Type 0
Falls xs = (k : ℕ) → get_or xs k 0 ≤ pred k
