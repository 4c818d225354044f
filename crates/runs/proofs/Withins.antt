-- `within k` is the longest beginning of some records that takes at most k bytes.
use mathlib.Core.Bool.{Bool, true, false, cond}
use mathlib.Core.List.{List, [], ◌∷◌}
use mathlib.Core.Path.{◌≡◌, refl, ap}
use Prim.Native.Nat.{ℕ, zero, suc, ◌+◌, ◌-◌, ◌≤◌, ◌<◌}
use native.Mathlib.Omega.{arith}
use borrow.Author.Tests.{leb-true, leb-false}
use lib.Dec.{leb}
use lib.ListN.{length, take}
use Rattle.marks.specs.Marks.{size}
use Rattle.runs.specs.Parsed.{Entry, span, within}

pub within_first : (k : ℕ) (es : List Entry) → within k es ≡ take (length (within k es)) es
unfolding within
within_first k [] = refl
within_first k (e ∷ es) = go (leb (2 + size e.mark) k) (within_first (k - (2 + size e.mark)) es)
  where
    go : (b : Bool) → within (k - (2 + size e.mark)) es ≡ take (length (within (k - (2 + size e.mark)) es)) es
        → cond b (e ∷ within (k - (2 + size e.mark)) es) [] ≡ take (length (cond b (e ∷ within (k - (2 + size e.mark)) es) [])) (e ∷ es)
    go true ih = ap (λ (l : List Entry). e ∷ l) ih
    go false ih = refl

pub within_fits : (k : ℕ) (es : List Entry) → span (within k es) ≤ k
unfolding within span
within_fits k [] = omega arith
within_fits k (e ∷ es) = go (leb (2 + size e.mark) k) refl (within_fits (k - (2 + size e.mark)) es)
  where
    go : (b : Bool) → leb (2 + size e.mark) k ≡ b → span (within (k - (2 + size e.mark)) es) ≤ k - (2 + size e.mark)
        → span (cond b (e ∷ within (k - (2 + size e.mark)) es) []) ≤ k
    go true q ih = let h : 2 + size e.mark ≤ k = leb-true _ _ q in omega arith
    go false q ih = omega arith

pub within_most : (k : ℕ) (es : List Entry) (n : ℕ) → n ≤ length es → span (take n es) ≤ k → n ≤ length (within k es)
unfolding within span
within_most k [] n h l = omega arith
within_most k (e ∷ es) zero h l = omega arith
within_most k (e ∷ es) (suc n) h l = go (leb (2 + size e.mark) k) refl (within_most (k - (2 + size e.mark)) es n)
  where
    go : (b : Bool) → leb (2 + size e.mark) k ≡ b
        → (n ≤ length es → span (take n es) ≤ k - (2 + size e.mark) → n ≤ length (within (k - (2 + size e.mark)) es))
        → suc n ≤ length (cond b (e ∷ within (k - (2 + size e.mark)) es) [])
    go true q ih = let i = ih (omega arith) (omega arith) in omega arith
    go false q ih = let g : k < 2 + size e.mark = leb-false _ _ q in absurd (omega arith)
