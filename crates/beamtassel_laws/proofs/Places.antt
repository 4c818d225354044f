-- The numbers of a report stand at fixed places: number k in the eight bytes from 8k on.
use mathlib.Core.List.{List, [], ◌∷◌, ◌++◌}
use mathlib.Core.Path.{◌≡◌, refl, ap, ◌∙◌}
use Prim.Native.Nat.{ℕ, zero, suc, ◌+◌, ◌*◌, ◌^◌, ◌<◌}
use native.Mathlib.Omega.{arith}
use lib.ListN.{length, get_or, take, drop}
use lib.Seq.{drop-append-add}
use Rattle.records.specs.Bytes.{little, number_of}
use Rattle.records.proofs.Bytes.{number_back}
use Rattle.listing.specs.Written.{in_a_row}
use Rattle.figures.specs.Figures.{in_order}

order_at : (xs : List ℕ) (k : ℕ) → k < length xs → take 8 (drop (8 * k) (in_order xs)) ≡ little 8 (get_or xs k 0)
unfolding in_a_row
order_at [] k h = absurd (omega arith)
order_at (x ∷ xs) zero h = refl
order_at (x ∷ xs) (suc k) h =
    let e : 8 * suc k ≡ 8 + 8 * k = omega arith in
    ap (λ (n : ℕ). take 8 (drop n (in_order (x ∷ xs)))) e ∙ ap (take 8) (drop-append-add (little 8 x) (in_order xs) (8 * k))
    ∙ order_at xs k (omega arith)

pub number_at : (xs : List ℕ) (k : ℕ) → k < length xs → get_or xs k 0 < 256 ^ 8 → number_of (take 8 (drop (8 * k) (in_order xs))) ≡ get_or xs k 0
number_at xs k h fits = ap number_of (order_at xs k h) ∙ number_back 8 (get_or xs k 0) fits
