-- The sum of a column of weights. Document 01, "Refusal numbers", 2: the sum of all weights does not fit.
use Rattle.std.specs.Prelude.{cond, List, ℕ, ◌-◌, ◌^◌, ltb, length, get_or, Option, None, Some}
use Rattle.loops.specs.Sum.{sum}

-- all weights
abbrev pub total_of : List ℕ → ℕ
total_of weights = sum (length weights) (λ k. get_or weights k 0)

-- a sum, where a machine number is as large
abbrev pub summed : ℕ → Option ℕ
summed total = cond (ltb (2 ^ 64 - 1) total) None (Some total)
