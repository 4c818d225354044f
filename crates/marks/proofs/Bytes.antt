-- Bytes cut out at a place, and the numbers that the library reads from them: they are ours.
use mathlib.Core.List.{List}
use mathlib.Core.Path.{◌≡◌, ap, ◌∙◌}
use Prim.Native.Nat.{ℕ, ◌+◌, ◌-◌, ◌<◌}
use native.Mathlib.Omega.{arith}
use lib.ListN.{take, drop}
use Rattle.std.proofs.lemmas.List.{get_or-take, get_or-drop}
use Rattle.std.specs.Int.{w32, w64, from_le_bytes}
use Rattle.marks.specs.Marks.{byte, word, long}

module _ (fs : List ℕ) (at n : ℕ) (part : List ℕ) (cut : part ≡ take (at + n - at) (drop at fs)) where
  byte_of : (k j : ℕ) → k < n → at + k ≡ j → byte part k ≡ byte fs j
  byte_of k j h e = rw cut (get_or-take (at + n - at) (drop at fs) k 0 (omega (arith, h)) ∙ (get_or-drop at fs k 0 ∙ ap (byte fs) e))

module _ (fs : List ℕ) (at : ℕ) (part : List ℕ) where
  pub word_is : part ≡ take (at + 4 - at) (drop at fs) → from_le_bytes w32 part ≡ word fs at
  unfolding word
  word_is cut =
      let of = byte_of fs at 4 part cut in
      omega (arith, of 0 at (omega arith) (omega arith), of 1 (at + 1) (omega arith) (omega arith), of 2 (at + 2) (omega arith) (omega arith), of 3 (at + 3) (omega arith) (omega arith))

  pub long_is : part ≡ take (at + 8 - at) (drop at fs) → from_le_bytes w64 part ≡ long fs at
  unfolding word long
  long_is cut =
      let of = byte_of fs at 8 part cut in
      omega (
        arith,
        of 0 at (omega arith) (omega arith),
        of 1 (at + 1) (omega arith) (omega arith),
        of 2 (at + 2) (omega arith) (omega arith),
        of 3 (at + 3) (omega arith) (omega arith),
        of 4 (at + 4) (omega arith) (omega arith),
        of 5 (at + 4 + 1) (omega arith) (omega arith),
        of 6 (at + 4 + 2) (omega arith) (omega arith),
        of 7 (at + 4 + 3) (omega arith) (omega arith),
      )
