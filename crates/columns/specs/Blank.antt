-- Document 01, "Shape rules": unused places 0.
use Rattle.std.specs.Prelude.{Bool, ◌||◌, List, ℕ, eqb, ltb, get_or}
use Rattle.loops.specs.All.{all}

-- no number from place n on, in a column of that size
unfoldable pub blank : List ℕ → ℕ → ℕ → Bool
blank column n size = all size (λ k. ltb k n || eqb (get_or column k 0) 0)
