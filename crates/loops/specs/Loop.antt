-- Loops over places 0, 1, 2, ..., as functions of how many turns are left.
use Rattle.std.specs.Prelude.{Bool, cond, ℕ, zero, suc}

-- f turns of a loop that stands at place k and carries v
unfoldable pub run : {A : Type 0} → (ℕ → A → A) → ℕ → ℕ → A → A
run s zero k v = v
run s (suc f) k v = run s f (suc k) (s k v)

-- a search with an early exit: f turns from place k, `hit` of the first place that passes, or `miss`
unfoldable pub first : {A : Type 0} → (ℕ → Bool) → (ℕ → A) → A → ℕ → ℕ → A
first p hit miss zero k = miss
first p hit miss (suc f) k = let rest = first p hit miss f (suc k) in cond (p k) (hit k) rest
