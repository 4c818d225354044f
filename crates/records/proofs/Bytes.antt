-- Bytes of numbers, and back.
use mathlib.Core.Path.{◌≡◌, refl}
use Prim.Native.Nat.{ℕ, zero, suc, ◌/◌, ◌^◌, ◌<◌}
use native.Mathlib.Omega.{arith}
use lib.ListN.{length}
use Rattle.context.specs.declared.Phase.{Phase}
use Rattle.tracker.specs.declared.Pair.{Pair}
use Rattle.records.specs.Bytes.{little, number_of, vote_bytes}

pub length_vote : (phase : Phase) (voter : ℕ) (pair : Pair) → length (vote_bytes phase voter pair) ≡ 22
unfolding vote_bytes
length_vote phase voter pair = refl

-- no number is lost in as many bytes as it needs
pub number_back : (n x : ℕ) → x < 256 ^ n → number_of (little n x) ≡ x
number_back zero x h = omega arith
number_back (suc n) x h = omega (arith, number_back n (x / 256) (omega arith))
