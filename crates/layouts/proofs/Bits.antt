-- Bits, places and phases over any run.
use mathlib.Core.Path.{◌≡◌, refl, sym, ap, ◌∙◌}
use Prim.Native.Nat.{ℕ, zero, suc, ◌+◌, ◌-◌, ◌*◌, ◌/◌, ◌%◌, ◌≤◌, ◌<◌}
use native.Mathlib.Nat.{div-add-mod', mod-lt, mul_assoc, mul-le-mul_right, le-div_iff_mul-le, div-lt_iff_lt-mul}
use native.Mathlib.Decide.{dec_lt}
use native.Mathlib.Omega.{arith}
use lib.Arith.{digits_div, digits_mod, digits_lt}
use Rattle.layouts.specs.Layout.{bit, place_of, phase_of}

pub phase_lt : (r j : ℕ) → phase_of r j < 2
unfolding phase_of
phase_lt r j = omega arith

module _ (r : ℕ) (some : 0 < r) where
  bit_high : (d p : ℕ) → bit r d p / r ≡ 2 * (p / r) + d
  unfolding bit
  bit_high d p = digits_div (2 * (p / r) + d) (mod-lt p some)

  bit_low : (d p : ℕ) → bit r d p % r ≡ p % r
  unfolding bit
  bit_low d p = digits_mod (2 * (p / r) + d) (mod-lt p some)

  pub place_bit : (d p : ℕ) → d < 2 → place_of r (bit r d p) ≡ p
  unfolding place_of
  place_bit d p h =
      let half : (2 * (p / r) + d) / 2 ≡ p / r = omega arith in
      rw (bit_high d p, bit_low d p, half) (div-add-mod' p r)

  pub phase_bit : (d p : ℕ) → d < 2 → phase_of r (bit r d p) ≡ d
  unfolding phase_of
  phase_bit d p h = rw (bit_high d p) (omega arith)

  pub bit_parts : (j : ℕ) → bit r (phase_of r j) (place_of r j) ≡ j
  unfolding bit place_of phase_of
  bit_parts j =
      let high : (j / r / 2 * r + j % r) / r ≡ j / r / 2 = digits_div (j / r / 2) (mod-lt j some) in
      let low : (j / r / 2 * r + j % r) % r ≡ j % r = digits_mod (j / r / 2) (mod-lt j some) in
      let whole : 2 * (j / r / 2) + j / r % 2 ≡ j / r = omega arith in
      rw (high, low, whole) (div-add-mod' j r)

  -- n runs of places have 2n runs of bits, and no other place has one of these
  pub bit_inside : (n d p : ℕ) → d < 2 → p < n * r → bit r d p < 2 * (n * r)
  unfolding bit
  bit_inside n d p h l =
      let q : p / r < n = (div-lt_iff_lt-mul {x = p} {y = n} some).1 l in
      rw (← mul_assoc 2 n r) (digits_lt {q = 2 * (p / r) + d} {m = 2 * n} {r = p % r} {c = r} (omega arith) (mod-lt p some))

  pub bit_outside : (n d p : ℕ) → n * r ≤ p → 2 * (n * r) ≤ bit r d p
  unfolding bit
  bit_outside n d p l =
      let q : n ≤ p / r = (le-div_iff_mul-le {x = n} {y = p} some).1 l in
      let m : 2 * n ≤ 2 * (p / r) + d = omega arith in
      omega (arith, mul-le-mul_right r m, mul_assoc 2 n r)

  -- so that every bit of theirs is that of a place of theirs
  pub place_inside : (n j : ℕ) → j < 2 * (n * r) → place_of r j < n * r
  place_inside n j l = go (dec_lt (place_of r j) (n * r))
    where
      go : Dec (place_of r j < n * r) → place_of r j < n * r
      go (yes h) = h
      go (no h) = absurd (omega (arith, bit_outside n (phase_of r j) (place_of r j) (omega arith), bit_parts j))
