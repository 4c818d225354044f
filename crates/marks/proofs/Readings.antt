-- What stands at the start of some bytes: the ways through `read`, forth and back.
use mathlib.Core.Bool.{Bool, true, false, cond}
use mathlib.Core.List.{List}
use mathlib.Core.Path.{◌≡◌, refl, ap, ◌∙◌}
use Prim.Native.Nat.{ℕ, ◌+◌, ◌≤◌, ◌<◌}
use native.Mathlib.Omega.{arith}
use borrow.Author.Tests.{ltb-true, ltb-false, lt-ltb, le-ltb}
use lib.Dec.{ltb}
use lib.ListN.{length}
use Rattle.marks.specs.declared.Mark.{Mark}
use Rattle.marks.specs.declared.Mark.TheVariants.{Vt, Rt, Bk, Op, Pv, Pc}
use Rattle.marks.specs.declared.Record.{Record}
use Rattle.marks.specs.declared.Record.TheVariants as is
use Rattle.marks.specs.Marks.{byte, letters, named, size, whole, read}
use Rattle.std.specs.Prelude.{Option, Some, None}

-- the two bytes of a mark as a number
abbrev pub mark_at : List ℕ → ℕ
mark_at bs = letters (byte bs 0) (byte bs 1)

pub size_most : (m : Mark) → size m ≤ 20
size_most Vt = omega arith
size_most Rt = omega arith
size_most Bk = omega arith
size_most Op = omega arith
size_most Pv = omega arith
size_most Pc = omega arith

-- no whole mark
pub read_short : (bs : List ℕ) → length bs < 2 → read bs ≡ is.Cut
unfolding read
read_short bs h = rw (lt-ltb _ _ h)

pub read_unknown : (bs : List ℕ) → 2 ≤ length bs → named (mark_at bs) ≡ None → read bs ≡ is.Unknown
unfolding read
read_unknown bs h e = rw (le-ltb _ _ h, e)

pub read_cut : (bs : List ℕ) (m : Mark) → 2 ≤ length bs → named (mark_at bs) ≡ Some m → length bs < 2 + size m → read bs ≡ is.Cut
unfolding read
read_cut bs m h e l = rw (le-ltb _ _ h, e, lt-ltb _ _ l)

pub read_whole : (bs : List ℕ) (m : Mark) → named (mark_at bs) ≡ Some m → 2 + size m ≤ length bs → read bs ≡ is.Whole m
unfolding read
read_whole bs m e l = rw (le-ltb (length bs) 2 (omega arith), e, le-ltb _ _ l)

-- one case for each way through `read`
pub by_read : (bs : List ℕ) (P : Record → Type 0)
    → (length bs < 2 → P is.Cut)
    → ((m : Mark) → 2 ≤ length bs → named (mark_at bs) ≡ Some m → length bs < 2 + size m → P is.Cut)
    → (2 ≤ length bs → named (mark_at bs) ≡ None → P is.Unknown)
    → ((m : Mark) → named (mark_at bs) ≡ Some m → 2 + size m ≤ length bs → P (is.Whole m))
    → P (read bs)
unfolding read
by_read bs P short cut unknown known = marked (ltb (length bs) 2) refl
  where
    sized : (m : Mark) → 2 ≤ length bs → named (mark_at bs) ≡ Some m → (b : Bool) → ltb (length bs) (2 + size m) ≡ b → P (cond b is.Cut (is.Whole m))
    sized m h e true l = cut m h e (ltb-true _ _ l)
    sized m h e false l = known m e (ltb-false _ _ l)

    looked : 2 ≤ length bs → (x : Option Mark) → named (mark_at bs) ≡ x → P (whole bs x)
    looked h (Some m) e = sized m h e (ltb (length bs) (2 + size m)) refl
    looked h None e = unknown h e

    marked : (b : Bool) → ltb (length bs) 2 ≡ b → P (cond b is.Cut (whole bs (named (mark_at bs))))
    marked true l = short (ltb-true _ _ l)
    marked false l = looked (ltb-false _ _ l) (named (mark_at bs)) refl

pub whole_means : (bs : List ℕ) (m : Mark) → read bs ≡ is.Whole m → (named (mark_at bs) ≡ Some m) × (2 + size m ≤ length bs)
whole_means bs m =
    by_read bs (λ r. r ≡ is.Whole m → (named (mark_at bs) ≡ Some m) × (2 + size m ≤ length bs))
    (λ h q. absurd (let z : ◌≡◌ {A = ℕ} 0 1 = cc in omega arith))
    (λ k h e l q. absurd (let z : ◌≡◌ {A = ℕ} 0 1 = cc in omega arith))
    (λ h e q. absurd (let z : ◌≡◌ {A = ℕ} 0 1 = cc in omega arith))
    (λ k e l q. let s : k ≡ m = cc in (e ∙ ap Some s, rw s at l))

pub unknown_means : (bs : List ℕ) → read bs ≡ is.Unknown → (2 ≤ length bs) × (named (mark_at bs) ≡ None)
unknown_means bs =
    by_read bs (λ r. r ≡ is.Unknown → (2 ≤ length bs) × (named (mark_at bs) ≡ None))
    (λ h q. absurd (let z : ◌≡◌ {A = ℕ} 0 1 = cc in omega arith))
    (λ k h e l q. absurd (let z : ◌≡◌ {A = ℕ} 0 1 = cc in omega arith))
    (λ h e q. (h, e))
    (λ k e l q. absurd (let z : ◌≡◌ {A = ℕ} 0 1 = cc in omega arith))

-- no record is longer than 22 bytes
pub cut_short : (bs : List ℕ) → read bs ≡ is.Cut → length bs < 22
cut_short bs =
    by_read bs (λ r. r ≡ is.Cut → length bs < 22)
    (λ h q. omega arith)
    (λ k h e l q. omega (arith, size_most k))
    (λ h e q. absurd (let z : ◌≡◌ {A = ℕ} 0 1 = cc in omega arith))
    (λ k e l q. absurd (let z : ◌≡◌ {A = ℕ} 0 1 = cc in omega arith))
