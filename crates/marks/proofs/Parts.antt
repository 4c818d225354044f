-- A record among the bytes around it: its fields, what comes after it, and bytes added behind.
use mathlib.Core.List.{List, ◌++◌}
use mathlib.Core.Path.{◌≡◌}
use Prim.Native.Nat.{ℕ, ◌+◌, ◌-◌, ◌≤◌}
use native.Mathlib.Omega.{arith}
use lib.ListN.{length, drop, length-append, length-take, length-drop, get_or-append}
use lib.Seq.{take-append-le, drop-append-le, drop-drop}
use Rattle.marks.specs.declared.Mark.{Mark}
use Rattle.marks.specs.declared.Record.TheVariants as is
use Rattle.marks.specs.Marks.{size, read, fields, after}
use Rattle.marks.proofs.Readings.{mark_at, read_unknown, read_whole, whole_means, unknown_means}

pub length_fields : (m : Mark) (bs : List ℕ) → 2 + size m ≤ length bs → length (fields m bs) ≡ size m
unfolding fields
length_fields m bs h = simp (length-take, length-drop) (omega arith)

pub length_after : (m : Mark) (bs : List ℕ) → length (after m bs) ≡ length bs - (2 + size m)
unfolding after
length_after m bs = length-drop (2 + size m) bs

-- the bytes after a record that begins at some place
pub after_drop : (m : Mark) (at : ℕ) (bs : List ℕ) → after m (drop at bs) ≡ drop (at + (2 + size m)) bs
unfolding after
after_drop m at bs = drop-drop (2 + size m) at bs

mark_more : (a b : List ℕ) → 2 ≤ length a → mark_at (a ++ b) ≡ mark_at a
mark_more a b h = rw (get_or-append a b 0 0 (omega arith), get_or-append a b 0 1 (omega arith))

-- bytes behind a whole record, or behind an unknown mark, change nothing about it
pub whole_more : (a b : List ℕ) (m : Mark) → read a ≡ is.Whole m → read (a ++ b) ≡ is.Whole m
whole_more a b m e =
    let w = whole_means a m e in
    let l = w.1 in
    read_whole (a ++ b) m (rw (mark_more a b (omega arith)) w.0) (omega (arith, length-append a b))

-- a record whose bytes all stand in a is whole in a
pub whole_less : (a b : List ℕ) (m : Mark) → read (a ++ b) ≡ is.Whole m → 2 + size m ≤ length a → read a ≡ is.Whole m
whole_less a b m e l = read_whole a m (rw (mark_more a b (omega arith)) at (whole_means (a ++ b) m e).0) l

pub unknown_more : (a b : List ℕ) → read a ≡ is.Unknown → read (a ++ b) ≡ is.Unknown
unknown_more a b e =
    let w = unknown_means a e in
    let h = w.0 in
    read_unknown (a ++ b) (omega (arith, length-append a b)) (rw (mark_more a b h) w.1)

pub fields_more : (m : Mark) (a b : List ℕ) → 2 + size m ≤ length a → fields m (a ++ b) ≡ fields m a
unfolding fields
fields_more m a b h =
    rw (drop-append-le 2 a b (omega arith), take-append-le (size m) (drop 2 a) b (omega (arith, length-drop 2 a)))

pub after_more : (m : Mark) (a b : List ℕ) → 2 + size m ≤ length a → after m (a ++ b) ≡ after m a ++ b
unfolding after
after_more m a b h = drop-append-le (2 + size m) a b h
