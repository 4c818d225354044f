-- The rest of a column, from a place on, and its front.
use mathlib.Core.Bool.{Bool, true, ◌&&◌}
use mathlib.Core.List.{List}
use mathlib.Core.Path.{◌≡◌, sym, ◌∙◌}
use Prim.Native.Nat.{ℕ, ◌+◌, ◌-◌, ◌<◌}
use native.Mathlib.Omega.{arith}
use lib.Dec.{eqb}
use lib.ListN.{length, get_or, take, drop}
use Rattle.std.proofs.lemmas.List.{get_or-drop, get_or-take, length-drop, length-take}
use Rattle.columns.specs.Blank.{blank}
use Rattle.columns.proofs.Blanks.{blank_none, blank_next}

module _ {A : Type 0} (xs : List A) (from : ℕ) where
  pub length_rest : length (take (length xs - from) (drop from xs)) ≡ length xs - from
  length_rest = omega (arith, length-take (length xs - from) (drop from xs), length-drop from xs)

  pub in_rest : (i : ℕ) (x : A) → i < length xs - from → x ≡ get_or (take (length xs - from) (drop from xs)) i x → get_or xs (from + i) x ≡ x
  in_rest i x h e = sym (e ∙ get_or-take (length xs - from) (drop from xs) i x h ∙ get_or-drop from xs i x)

-- and its front, up to a place
module _ {A : Type 0} (xs : List A) (end : ℕ) where
  pub in_front : (i : ℕ) (x : A) → i < end → x ≡ get_or (take end xs) i x → get_or xs i x ≡ x
  in_front i x h e = sym (e ∙ get_or-take end xs i x h)

-- the turns of a loop over the rest
module _ (column : List ℕ) (from : ℕ) where
  pub rest_none : true ≡ blank column from (from + 0)
  rest_none = let e : from + 0 ≡ from = omega arith in rw e (blank_none column from)

  pub rest_next : (i x : ℕ) (b : Bool) → b ≡ blank column from (from + i) → get_or column (from + i) 0 ≡ x
      → (eqb x 0 && b) ≡ blank column from (from + (i + 1))
  rest_next i x b h e =
      let s : from + i + 1 ≡ from + (i + 1) = omega arith in
      rw (h, ← e, ← s) (blank_next column from (from + i) (omega arith))
