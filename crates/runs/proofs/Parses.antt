-- The list of whole records at the start of some bytes, one record at a time.
use mathlib.Core.List.{List, [], ◌∷◌}
use mathlib.Core.Path.{◌≡◌, refl, sym, ap, ◌∙◌}
use Prim.Native.Nat.{ℕ, zero, suc, ◌≤◌}
use native.Mathlib.Omega.{arith}
use lib.ListN.{length}
use Rattle.marks.specs.declared.Mark.{Mark}
use Rattle.marks.specs.declared.Record.{Record}
use Rattle.marks.specs.declared.Record.TheVariants as is
use Rattle.marks.specs.Marks.{read, fields, after}
use Rattle.marks.proofs.Readings.{read_short}
use Rattle.marks.proofs.Parts.{length_after}
use Rattle.runs.specs.Parsed.{Entry, entries, parsed}

entries_cut : (f : ℕ) (bs : List ℕ) → read bs ≡ is.Cut → entries f bs ≡ []
unfolding entries
entries_cut zero bs e = refl
entries_cut (suc f) bs e = rw e

entries_unknown : (f : ℕ) (bs : List ℕ) → read bs ≡ is.Unknown → entries f bs ≡ []
unfolding entries
entries_unknown zero bs e = refl
entries_unknown (suc f) bs e = rw e

entries_whole : (f : ℕ) (bs : List ℕ) (m : Mark) → read bs ≡ is.Whole m
    → entries (suc f) bs ≡ record { mark = m; fields = fields m bs } ∷ entries f (after m bs)
unfolding entries
entries_whole f bs m e = rw e

entries_more : (f g : ℕ) (bs : List ℕ) → length bs ≤ f → length bs ≤ g → entries f bs ≡ entries g bs
entries_more zero g bs h l = let e = read_short bs (omega arith) in entries_cut 0 bs e ∙ sym (entries_cut g bs e)
entries_more (suc f) zero bs h l = let e = read_short bs (omega arith) in entries_cut (suc f) bs e ∙ sym (entries_cut 0 bs e)
entries_more (suc f) (suc g) bs h l = go (read bs) refl (entries_more f g)
  where
    go : (x : Record) → read bs ≡ x → ((cs : List ℕ) → length cs ≤ f → length cs ≤ g → entries f cs ≡ entries g cs)
        → entries (suc f) bs ≡ entries (suc g) bs
    go is.Cut e ih = entries_cut (suc f) bs e ∙ sym (entries_cut (suc g) bs e)
    go is.Unknown e ih = entries_unknown (suc f) bs e ∙ sym (entries_unknown (suc g) bs e)
    go (is.Whole m) e ih =
        entries_whole f bs m e
        ∙ ap (λ (l : List Entry). record { mark = m; fields = fields m bs } ∷ l)
        (ih (after m bs) (omega (arith, length_after m bs)) (omega (arith, length_after m bs)))
        ∙ sym (entries_whole g bs m e)

pub parsed_cut : (bs : List ℕ) → read bs ≡ is.Cut → parsed bs ≡ []
unfolding parsed
parsed_cut bs e = entries_cut (length bs) bs e

pub parsed_unknown : (bs : List ℕ) → read bs ≡ is.Unknown → parsed bs ≡ []
unfolding parsed
parsed_unknown bs e = entries_unknown (length bs) bs e

pub parsed_whole : (bs : List ℕ) (m : Mark) → read bs ≡ is.Whole m
    → parsed bs ≡ record { mark = m; fields = fields m bs } ∷ parsed (after m bs)
unfolding parsed
parsed_whole bs m e =
    entries_more (length bs) (suc (length bs)) bs (omega arith) (omega arith)
    ∙ entries_whole (length bs) bs m e
    ∙ ap (λ (l : List Entry). record { mark = m; fields = fields m bs } ∷ l)
    (entries_more (length bs) (length (after m bs)) (after m bs) (omega (arith, length_after m bs)) (omega arith))
