-- A column of numbers and how many of its places are used. Document 01, "Forms that must change": arrays with counts, kept
-- in the Rust's order.
use Rattle.std.specs.Prelude.{Bool, List, ℕ, min, eqb, length, get_or, Option, Some, None}
use Rattle.loops.specs.Loop.{first}
use Rattle.loops.specs.All.{any}

-- the used places; a count past the column's end stands for its end
abbrev pub used : List ℕ → ℕ → ℕ
used column count = min count (length column)

-- the number x stands at place k
abbrev pub is_at : List ℕ → ℕ → ℕ → Bool
is_at column x k = eqb (get_or column k 0) x

-- the first used place where x stands
unfoldable pub find : List ℕ → ℕ → ℕ → Option ℕ
find column count x = first (is_at column x) Some None (used column count) 0

-- x stands at some used place
unfoldable pub contains : List ℕ → ℕ → ℕ → Bool
contains column count x = any (used column count) (is_at column x)
