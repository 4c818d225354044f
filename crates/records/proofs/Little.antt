-- The library's bytes of a number are ours.
use mathlib.Core.Path.{◌≡◌, refl}
use Prim.Native.Nat.{ℕ, ◌/◌}
use native.Mathlib.Omega.{arith}
use Rattle.std.specs.Int.{w32, w64, to_le_bytes}
use Rattle.records.specs.Bytes.{little}

module _ (x : ℕ) where
  by_2 : x / 65536 ≡ x / 256 / 256
  by_2 = omega arith

  by_3 : x / 16777216 ≡ x / 256 / 256 / 256
  by_3 = omega arith

  by_4 : x / 4294967296 ≡ x / 256 / 256 / 256 / 256
  by_4 = omega arith

  by_5 : x / 1099511627776 ≡ x / 256 / 256 / 256 / 256 / 256
  by_5 = omega arith

  by_6 : x / 281474976710656 ≡ x / 256 / 256 / 256 / 256 / 256 / 256
  by_6 = omega arith

  by_7 : x / 72057594037927936 ≡ x / 256 / 256 / 256 / 256 / 256 / 256 / 256
  by_7 = omega arith

  pub little_4 : to_le_bytes w32 x ≡ little 4 x
  little_4 = rw (by_2, by_3) refl

  pub little_8 : to_le_bytes w64 x ≡ little 8 x
  little_8 = rw (by_2, by_3, by_4, by_5, by_6, by_7) refl
