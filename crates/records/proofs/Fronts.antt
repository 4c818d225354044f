-- The first two bytes of a space, set one after the other.
use mathlib.Core.List.{List, [], ◌∷◌}
use mathlib.Core.Path.{◌≡◌, refl}
use Prim.Native.Nat.{ℕ, ◌≤◌}
use native.Mathlib.Omega.{arith}
use lib.ListN.{length, drop, set}

pub set_front : (old : List ℕ) (first second : ℕ) → 22 ≤ length old → set (set old 0 first) 1 second ≡ first ∷ second ∷ drop 2 old
set_front [] first second h = absurd (omega (arith, h))
set_front (a ∷ []) first second h = absurd (omega (arith, h))
set_front (a ∷ b ∷ old) first second h = refl
