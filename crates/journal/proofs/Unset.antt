-- An index that is not set, as the library tests it.
use mathlib.Core.Bool.{Bool, true, false, not}
use mathlib.Core.Path.{◌≡◌, refl}
use Prim.Native.Nat.{ℕ}
use native.Mathlib.Omega.{arith}
use Rattle.std.specs.Option.{is_some}
use Rattle.std.specs.Prelude.{Option, Some, None}
use Rattle.journal.specs.Journal.{unset}

pub none_unset : (o : Option ℕ) (b : Bool) → is_some o ≡ not b → unset o ≡ b
none_unset None true e = refl
none_unset None false e = absurd (let z : ◌≡◌ {A = ℕ} 0 1 = cc in omega arith)
none_unset (Some n) true e = absurd (let z : ◌≡◌ {A = ℕ} 0 1 = cc in omega arith)
none_unset (Some n) false e = refl
