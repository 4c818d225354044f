-- Document 01, "The journal": a journal cut at any byte gives the state of the whole records before the cut, if the uncut one is
-- accepted.
use mathlib.Core.Bool.{Bool, true, false, cond}
use mathlib.Core.List.{List, [], ◌∷◌, ◌++◌}
use mathlib.Core.Path.{◌≡◌, refl, sym, ap, ◌∙◌}
use Prim.Native.Nat.{ℕ, ◌+◌, ◌-◌, ◌≤◌, ◌<◌}
use native.Mathlib.Omega.{arith}
use borrow.Author.Tests.{leb-true, leb-false}
use lib.Dec.{leb}
use lib.ListN.{length, take, drop, length-take, take-append-drop}
use lib.Seq.{take-add, drop_at, length-take-le}
use Rattle.marks.specs.declared.Mark.{Mark}
use Rattle.marks.specs.declared.Record.{Record}
use Rattle.marks.specs.declared.Record.TheVariants as is
use Rattle.marks.specs.declared.End.{End}
use Rattle.marks.specs.declared.End.TheVariants.{Cut, Refused, Left}
use Rattle.marks.specs.Marks.{read, size, fields, after}
use Rattle.marks.proofs.Readings.{whole_means}
use Rattle.marks.proofs.Parts.{whole_more, whole_less, fields_more}
use Rattle.runs.specs.Run.{Next, Run, ended, ran}
use Rattle.runs.specs.Parsed.{Entry, parsed, span, tail, folded, within}
use Rattle.runs.proofs.Inductions.{by_records}
use Rattle.runs.proofs.Parses.{parsed_cut, parsed_unknown, parsed_whole}
use Rattle.runs.proofs.Appends.{append_refused, append_left}
use Rattle.runs.proofs.Folds.{ran_to_end}

-- a whole record of the first bytes is one of all
uncut : (k : ℕ) (bs : List ℕ) (m : Mark) → read (take k bs) ≡ is.Whole m → read bs ≡ is.Whole m
uncut k bs m e = rw (take-append-drop k bs) at (whole_more (take k bs) (drop k bs) m e)

none_parsed : (bs : List ℕ) → ((m : Mark) → read bs ≡ is.Whole m → ⊥) → parsed bs ≡ []
none_parsed bs f = go (read bs) refl
  where
    go : (x : Record) → read bs ≡ x → parsed bs ≡ []
    go (is.Whole m) e = absurd (f m e)
    go is.Cut e = parsed_cut bs e
    go is.Unknown e = parsed_unknown bs e

after_take : (k : ℕ) (bs : List ℕ) (m : Mark) → 2 + size m ≤ k → 2 + size m ≤ length bs → after m (take k bs) ≡ take (k - (2 + size m)) (after m bs)
unfolding after
after_take k bs m h l =
    let e : k ≡ 2 + size m + (k - (2 + size m)) = omega arith in
    ap (λ (j : ℕ). drop (2 + size m) (take j bs)) e
    ∙ ap (drop (2 + size m)) (take-add (2 + size m) (k - (2 + size m)) bs)
    ∙ drop_at (take (2 + size m) bs) (take (k - (2 + size m)) (drop (2 + size m) bs)) (2 + size m) (length-take-le (2 + size m) bs l)

-- the whole records of the first k bytes are the first records that end there
pub cut_parsed : (bs : List ℕ) (k : ℕ) → parsed (take k bs) ≡ within k (parsed bs)
unfolding within
cut_parsed =
    by_records (λ bs. (k : ℕ) → parsed (take k bs) ≡ within k (parsed bs))
    (λ bs e k. rw (parsed_cut bs e) (none_parsed (take k bs) (λ m w. let u = uncut k bs m w in let z : ◌≡◌ {A = ℕ} 0 1 = cc in omega arith)))
    (λ bs e k. rw (parsed_unknown bs e) (none_parsed (take k bs) (λ m w. let u = uncut k bs m w in let z : ◌≡◌ {A = ℕ} 0 1 = cc in omega arith)))
    (λ bs m e ih k. rw (parsed_whole bs m e) (one bs m e ih k (leb (2 + size m) k) refl))
  where
    one : (bs : List ℕ) (m : Mark) → read bs ≡ is.Whole m → ((j : ℕ) → parsed (take j (after m bs)) ≡ within j (parsed (after m bs)))
        → (k : ℕ) (b : Bool) → leb (2 + size m) k ≡ b
        → parsed (take k bs) ≡ cond b (record { mark = m; fields = fields m bs } ∷ within (k - (2 + size m)) (parsed (after m bs))) []
    one bs m e ih k true q =
        let h : 2 + size m ≤ k = leb-true _ _ q in
        let l : 2 + size m ≤ length bs = (whole_means bs m e).1 in
        let n : 2 + size m ≤ length (take k bs) = omega (arith, length-take k bs) in
        let w : read (take k bs) ≡ is.Whole m = whole_less (take k bs) (drop k bs) m (rw (take-append-drop k bs) e) n in
        let f : fields m (take k bs) ≡ fields m bs =
        sym (fields_more m (take k bs) (drop k bs) n) ∙ ap (fields m) (take-append-drop k bs) in
        parsed_whole (take k bs) m w
        ∙ ap (λ (fs : List ℕ). record { mark = m; fields = fs } ∷ parsed (after m (take k bs))) f
        ∙ ap (λ (es : List Entry). record { mark = m; fields = fields m bs } ∷ es)
        (ap parsed (after_take k bs m h l) ∙ ih (k - (2 + size m)))
    one bs m e ih k false q =
        none_parsed (take k bs) (λ j w. none j w (uncut k bs j w))
      where
        none : (j : Mark) → read (take k bs) ≡ is.Whole j → read bs ≡ is.Whole j → ⊥
        none j w u =
            let s : j ≡ m = cc in
            let l : 2 + size m ≤ length (take k bs) = rw s at (whole_means (take k bs) j w).1 in
            let g : k < 2 + size m = leb-false _ _ q in
            omega (arith, length-take k bs)

module _ {S : Type 0} (step : S → Mark → List ℕ → Next S) where
  -- a run over the first bytes comes to their end, where the run over all comes to the end
  cut_accepted : (s : S) (bs : List ℕ) (k : ℕ) → (ran step s bs).end ≡ Cut → (ran step s (take k bs)).end ≡ Cut
  cut_accepted s bs k c = go (ran step s (take k bs)).end refl
    where
      whole : (r : Run S) → ran step s (take k bs ++ drop k bs) ≡ r → (ran step s bs).end ≡ r.end
      whole r e = ap (λ (x : Run S). x.end) (ap (ran step s) (sym (take-append-drop k bs)) ∙ e)

      go : (x : End) → (ran step s (take k bs)).end ≡ x → (ran step s (take k bs)).end ≡ Cut
      go Cut e = e
      go (Refused j) e =
          let r : (ran step s bs).end ≡ Refused j = whole _ (append_refused step (drop k bs) s (take k bs) j e) in
          absurd (let z : ◌≡◌ {A = ℕ} 0 1 = cc in omega arith)
      go Left e =
          let r : (ran step s bs).end ≡ Left = whole _ (append_left step (drop k bs) s (take k bs) e) in
          absurd (let z : ◌≡◌ {A = ℕ} 0 1 = cc in omega arith)

  -- the journal cut at byte k: the records that end at or before it are taken, all of them, and the bytes after them are left
  pub cut_anywhere : (s : S) (bs : List ℕ) (k : ℕ) → (ran step s bs).end ≡ Cut
      → ((folded step s (within k (parsed bs))).end ≡ Cut)
      × (ran step s (take k bs)
      ≡ ended (folded step s (within k (parsed bs))).state (length (within k (parsed bs))) (drop (span (within k (parsed bs))) (take k bs)) Cut)
  unfolding tail
  cut_anywhere s bs k c = rw (cut_parsed bs k) at (ran_to_end step s (take k bs) (cut_accepted s bs k c))
