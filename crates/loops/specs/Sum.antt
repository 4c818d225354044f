-- The one sum over places, and the weight of a set of places. A set is a test.
use Rattle.std.specs.Prelude.{Bool, cond, ℕ, zero, suc, ◌+◌}

-- f 0 + f 1 + .. + f (n - 1)
unfoldable pub sum : ℕ → (ℕ → ℕ) → ℕ
sum zero f = 0
sum (suc n) f = sum n f + f n

-- the weights w of the places below n that are in s
abbrev pub weigh : ℕ → (ℕ → Bool) → (ℕ → ℕ) → ℕ
weigh n s w = sum n (λ p. cond (s p) (w p) 0)
