-- A list in a column. Document 01, "Forms that must change": arrays with counts; "Shape rules": unused places 0.
use Rattle.std.specs.Prelude.{List, ◌++◌, ℕ, zero, suc, ◌-◌, length, get_or, set, replicate}

-- a list in a column of that size, the unused places 0
unfoldable pub padded : ℕ → List ℕ → List ℕ
padded size xs = xs ++ replicate (size - length xs) 0

-- f turns of a loop that lays down x at place k and carries on what stood there
unfoldable pub shift : ℕ → ℕ → ℕ → List ℕ → List ℕ
shift zero k x xs = xs
shift (suc f) k x xs = shift f (suc k) (get_or xs k 0) (set xs k x)
