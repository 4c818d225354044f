-- The three runs.
use mathlib.Core.Path.{◌≡◌, refl}
use Prim.Native.Nat.{ℕ, ◌+◌, ◌*◌, ◌<◌}
use native.Mathlib.Omega.{arith}
use Rattle.layouts.specs.Layout.{bit, RUN, index}

pub alternating : (d p : ℕ) → bit 1 d p ≡ 2 * p + d
unfolding bit
alternating d p = omega arith

-- the run of a round is the first
pub index_alternates : (d p : ℕ) → index d p ≡ 2 * p + d
unfolding index RUN
index_alternates d p = alternating d p

pub word_a_phase : (d p : ℕ) → p < 64 → bit 64 d p ≡ 64 * d + p
unfolding bit
word_a_phase d p h = omega arith

pub three_words_a_phase : (d p : ℕ) → p < 192 → bit 192 d p ≡ 192 * d + p
unfolding bit
three_words_a_phase d p h = omega arith

-- document 01's three place cases
pub cases : (bit 64 0 0 ≡ 0) × (bit 64 0 32 ≡ 32) × (bit 64 1 63 ≡ 127) × (bit 64 0 64 ≡ 128)
unfolding bit
cases = (refl, refl, refl, refl)
