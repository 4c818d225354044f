-- Document 01, "Weights and bits".
use Rattle.std.specs.Prelude.{ℕ, ◌-◌, ◌/◌}

-- fault weight F = (total - 1) / 3 rounded down
abbrev pub fault : ℕ → ℕ
fault total = (total - 1) / 3

-- threshold T = total - F
abbrev pub threshold : ℕ → ℕ
threshold total = total - fault total
