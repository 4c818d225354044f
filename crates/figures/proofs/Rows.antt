-- Numbers of eight bytes one after the other, each put into the part of a buffer that remains.
use mathlib.Core.List.{List, [], ◌∷◌, ◌++◌}
use mathlib.Core.Path.{◌≡◌, refl, sym, ap, subst, ◌∙◌}
use Prim.Native.Nat.{ℕ, ◌+◌, ◌-◌, ◌*◌, ◌≤◌, ◌<◌}
use native.Mathlib.Numerals.{add-one}
use native.Mathlib.Omega.{arith}
use lib.ListN.{get_or, length, take, drop, length-append}
use lib.Seq.{take_all, take-suc}
use Rattle.records.specs.Bytes.{little}
use Rattle.listing.specs.Written.{in_a_row}
use Rattle.listing.proofs.Rows.{row_append, row_one}
use Rattle.lines.specs.Put.{Put}
use Rattle.lines.proofs.Puts.{◌then◌, put_part, put_whole}
use Rattle.summary.specs.declared.Summary.{Summary}
use Rattle.figures.specs.Figures.{figures, in_order}

order_length : (xs : List ℕ) → length (in_order xs) ≡ 8 * length xs
unfolding in_a_row
order_length [] = refl
order_length (x ∷ xs) = omega (arith, length-append (little 8 x) (in_order xs), order_length xs)

-- 22 numbers are 176 bytes
pub figures_length : (s : Summary) → length (in_order (figures s)) ≡ 176
unfolding figures
figures_length s = order_length (figures s)

-- one number more
order_next : (k : ℕ) (xs : List ℕ) → k < length xs → in_order (take (k + 1) xs) ≡ in_order (take k xs) ++ little 8 (get_or xs k 0)
order_next k xs h =
    rw (add-one k, take-suc xs k 0 h)
    (row_append (little 8) (take k xs) (get_or xs k 0 ∷ []) ∙ ap (λ (l : List ℕ). in_order (take k xs) ++ l) (row_one (little 8) (get_or xs k 0)))

-- what k turns have made of a buffer
pub record Filled (xs old : List ℕ) (k : ℕ) (out : List ℕ) (used : ℕ) : Type 0 where
  pub used_is : used ≡ 8 * k
  pub put : Put old 0 (in_order (take k xs)) out used

pub filled_none : (xs old : List ℕ) → Filled xs old 0 old 0
unfolding in_a_row
filled_none xs old = record { used_is = refl; put = record { bytes_are = refl; next_is = refl; fits = omega arith } }

pub filled_next : (xs old : List ℕ) (k : ℕ) (out : List ℕ) (used : ℕ) → k < length xs → Filled xs old k out used → used + 8 ≤ length out
    → (part : List ℕ) → part ≡ little 8 (get_or xs k 0) ++ drop 8 (take (length out - used) (drop used out))
    → Filled xs old (k + 1) (take used out ++ (part ++ drop (length out - used) (drop used out))) (used + 8)
filled_next xs old k out used h f room part e =
    record {
      used_is = omega (arith, f.used_is);
      put =
          subst (λ (t : List ℕ). Put old 0 t (take used out ++ (part ++ drop (length out - used) (drop used out))) (used + 8)) (sym (order_next k xs h))
          (f.put then put_part out (little 8 (get_or xs k 0)) part used room e);
    }

pub filled_end : (xs old : List ℕ) (n k : ℕ) (out : List ℕ) (used : ℕ) → Filled xs old k out used → length xs ≡ n → k ≡ n
    → out ≡ in_order xs ++ drop (8 * n) old
filled_end xs old n k out used f size e =
    let whole : Put old 0 (in_order xs) out used =
    subst (λ (l : List ℕ). Put old 0 (in_order l) out used) (take_all k xs (omega arith)) f.put in
    let m : length (in_order xs) ≡ 8 * n = omega (arith, order_length xs) in
    (put_whole whole).0 ∙ ap (λ (i : ℕ). in_order xs ++ drop i old) m
