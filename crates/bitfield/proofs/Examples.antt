-- Worked examples of the definitions.
use mathlib.Core.Bool.{true, false}
use mathlib.Core.List.{List, [], ◌∷◌}
use mathlib.Core.Path.{◌≡◌, refl}
use Prim.Native.Nat.{ℕ, ◌^◌}
use Rattle.loops.specs.All.{all}
use Rattle.loops.specs.Loop.{first}
use Rattle.loops.specs.Sum.{sum}
use Rattle.bitfield.specs.Bits.{in_word, has, put, words, joined, blank, mask, every}
use Rattle.bitfield.specs.Walk.{cut, next, walk}

none : List ℕ
none = 0 ∷ 0 ∷ []

-- bits 0, 63, 64 and 127 of two words; bit 128 isn't there
bits : (put none 0 ≡ 2 ^ 63 ∷ 0 ∷ []) × (put none 63 ≡ 1 ∷ 0 ∷ []) × (put none 64 ≡ 0 ∷ 2 ^ 63 ∷ []) × (put none 127 ≡ 0 ∷ 1 ∷ []) × (put none 128 ≡ none)
unfolding put none
bits = (refl, refl, refl, refl, refl)

-- one word ends at bit 63, three at bit 191
widths : (put (0 ∷ []) 63 ≡ 1 ∷ []) × (put (0 ∷ []) 64 ≡ 0 ∷ []) × (put (0 ∷ 0 ∷ 0 ∷ []) 191 ≡ 0 ∷ 0 ∷ 1 ∷ [])
unfolding put
widths = (refl, refl, refl)

tested : (has (put none 70) 70 ≡ true) × (has (put none 70) 71 ≡ false) × (has (put none 70) 1000 ≡ false)
unfolding put none has in_word
tested = (refl, refl, refl)

-- the bits 0, 3, 64 and 127 walked: all, the even ones, the odd ones
walks : (walk 128 (put (put (put (put none 64) 127) 3) 0) ≡ 0 ∷ 3 ∷ 64 ∷ 127 ∷ [])
    × (walk 128 (every 0 (joined (put (put none 64) 127) (put (put none 3) 0))) ≡ 0 ∷ 64 ∷ [])
    × (walk 128 (every 1 (joined (put (put none 64) 127) (put (put none 3) 0))) ≡ 3 ∷ 127 ∷ [])
unfolding put none has in_word walk next first cut every words mask sum joined
walks = (refl, refl, refl)

blanks : (blank none ≡ true) × (blank (put none 127) ≡ false)
unfolding blank none put all
blanks = (refl, refl)
