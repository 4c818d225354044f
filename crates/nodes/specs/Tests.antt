-- Tests of places that code is handed.
use Rattle.std.specs.Prelude.{Bool, ◌≡◌, ℕ, ◌<◌}

-- what a call may answer of a place is what p says of it
abbrev pub Tests : (ℕ → Bool → Type 0) → (ℕ → Bool) → Type 0
Tests answers p = (x : ℕ) (b : Bool) → x < 256 → answers x b → b ≡ p x
