-- The numbers of a round: T is the smallest weight above two thirds, and the Rust's way to ask what is possible is the definition.
use mathlib.Core.Path.{◌≡◌, refl}
use Prim.Native.Nat.{ℕ, ◌+◌, ◌-◌, ◌*◌, ◌^◌, ◌≤◌, ◌<◌, min}
use native.Mathlib.Omega.{arith}
use lib.Dec.{T, leb, leb→le, le→leb}
use Rattle.loops.proofs.Tests.{same_test}
use Rattle.weights.specs.Weights.{most, plus}
use Rattle.grandpa.specs.Weight.{fault, threshold}
use Rattle.grandpa.specs.Possible.{possible, asked, enough}

-- document 02, R-4: of a total above 0, T is more than two thirds, and no smaller weight is. F's definition and the words mean one number
pub threshold_least : (total : ℕ) → 0 < total → (2 * total < 3 * threshold total) × ((w : ℕ) → 2 * total < 3 * w → threshold total ≤ w)
threshold_least total h = (omega arith, λ w p. omega arith)

-- nothing is needed of a total of 0, though more than two thirds of it would be 1
pub threshold_nothing : threshold 0 ≡ 0
threshold_nothing = refl

-- a saturated sum reaches what the sum reaches, up to the largest weight
pub reaches : (t a b c : ℕ) → t ≤ most → leb t (plus (plus a b) c) ≡ leb t (a + b + c)
reaches t a b c h = same_test (leb t (plus (plus a b) c)) (leb t (a + b + c)) (λ r. omega (arith, leb→le, le→leb)) (λ r. omega (arith, leb→le, le→leb))

pub possible_asked : (total c e w : ℕ) → enough (asked total (threshold total) c e) w ≡ possible total c e w
possible_asked total c e w =
    let f : total - threshold total ≡ fault total = omega arith in
    rw f
