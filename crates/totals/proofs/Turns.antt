-- A sum that is over before the end, and what the answer tells.
use mathlib.Core.Bool.{Bool, true, false, cond}
use mathlib.Core.List.{List}
use mathlib.Core.Path.{◌≡◌, refl}
use Prim.Native.Nat.{ℕ, ◌+◌, ◌-◌, ◌<◌, ◌^◌}
use native.Mathlib.Omega.{arith}
use lib.Dec.{eqb, ltb}
use lib.ListN.{length, get_or}
use borrow.Author.Tests.{ne_eqb, ltb-true}
use mir.Val.{Fits}
use mir.Syntax.{w64}
use Rattle.loops.specs.Sum.{sum}
use Rattle.loops.proofs.Sums.{sum_fewer, sum_more}
use Rattle.std.proofs.Common.{None, Some}
use Rattle.totals.specs.Totals.{total_of, summed}

-- a sum that is over before the end is over at the end
pub over : (weights : List ℕ) (k : ℕ) → k < length weights → 2 ^ 64 - 1 < sum k (λ j. get_or weights j 0) + get_or weights k 0 → 2 ^ 64 - 1 < total_of weights
over weights k h l =
    omega (arith, sum_fewer (k + 1) (length weights) (λ j. get_or weights j 0) (omega arith), sum_more k (λ j. get_or weights j 0))

pub summed_over : (t : ℕ) → summed t ≡ None → ltb (2 ^ 64 - 1) t ≡ true
summed_over t = go (ltb (2 ^ 64 - 1) t)
  where
    go : (b : Bool) → cond b None (Some t) ≡ None → b ≡ true
    go true e = refl
    go false e = absurd (let z : ◌≡◌ {A = ℕ} 0 1 = cc in omega arith)

pub summed_fits : (t x : ℕ) → summed t ≡ Some x → (ltb (2 ^ 64 - 1) t ≡ false) × (x ≡ t)
summed_fits t x = go (ltb (2 ^ 64 - 1) t)
  where
    go : (b : Bool) → cond b None (Some t) ≡ Some x → (b ≡ false) × (x ≡ t)
    go true e = absurd (let z : ◌≡◌ {A = ℕ} 0 1 = cc in omega arith)
    go false e = (refl, cc)

-- a machine number is not a sum that is over
pub over_total : (t x : ℕ) → ltb (2 ^ 64 - 1) t ≡ true → Fits w64 x → eqb x t ≡ false
over_total t x e f = ne_eqb x t (λ q. omega (arith, ltb-true (2 ^ 64 - 1) t e, f.fits))
