-- A test of every place below n, and of some place below n.
use Rattle.std.specs.Prelude.{Bool, true, false, ◌&&◌, ◌||◌, ℕ, zero, suc}

unfoldable pub all : ℕ → (ℕ → Bool) → Bool
all zero p = true
all (suc n) p = p n && all n p

unfoldable pub any : ℕ → (ℕ → Bool) → Bool
any zero p = false
any (suc n) p = p n || any n p
