-- A run is the fold of its step over the whole records.
use mathlib.Core.List.{List, [], ◌∷◌}
use mathlib.Core.Path.{◌≡◌, refl, sym, ap, ◌∙◌}
use Prim.Native.Nat.{ℕ, suc, ◌+◌}
use native.Mathlib.Omega.{arith}
use lib.ListN.{length, take}
use lib.Seq.{drop-drop, take-length}
use Rattle.marks.specs.declared.Mark.{Mark}
use Rattle.marks.specs.declared.Record.TheVariants as is
use Rattle.marks.specs.declared.End.{End}
use Rattle.marks.specs.declared.End.TheVariants.{Cut, Refused, Left}
use Rattle.marks.specs.Marks.{read, size, fields, after}
use Rattle.runs.specs.Run.{Next, goes, stops, leaves, Run, ended, ran, counted}
use Rattle.runs.specs.Follow.{on_cut}
use Rattle.runs.specs.Parsed.{Entry, parsed, span, rest_after, tail, Folded, folded_on, folded, tail_end, after_fold}
use Rattle.runs.proofs.Inductions.{by_run}
use Rattle.runs.proofs.Parses.{parsed_cut, parsed_unknown, parsed_whole}
use Rattle.refusals.specs.declared.Refusal.TheVariants.{UnknownMark}
use Rattle.refusals.specs.declared.Refusal.{Refusal}

-- before the first record nothing is taken off, and each record takes its bytes off
pub rest_none : (bs : List ℕ) → rest_after 0 bs ≡ bs
unfolding rest_after span
rest_none bs = refl

pub rest_whole : (n : ℕ) (bs : List ℕ) (m : Mark) → read bs ≡ is.Whole m → rest_after (1 + n) bs ≡ rest_after n (after m bs)
unfolding rest_after span after
rest_whole n bs m e =
    let s : 1 + n ≡ suc n = omega arith in
    rw (s, parsed_whole bs m e) (sym (drop-drop (span (take n (parsed (after m bs)))) (2 + size m) bs))

tail_none : (bs : List ℕ) → parsed bs ≡ [] → tail bs ≡ bs
unfolding tail span
tail_none bs e = rw e

pub tail_whole : (bs : List ℕ) (m : Mark) → read bs ≡ is.Whole m → tail bs ≡ tail (after m bs)
unfolding tail span after
tail_whole bs m e = rw (parsed_whole bs m e) (sym (drop-drop (span (parsed (after m bs))) (2 + size m) bs))

tail_cut : (bs : List ℕ) → read bs ≡ is.Cut → tail_end bs ≡ Cut
unfolding tail_end
tail_cut bs e = rw e

tail_unknown : (bs : List ℕ) → read bs ≡ is.Unknown → tail_end bs ≡ Refused UnknownMark
unfolding tail_end
tail_unknown bs e = rw e

module _ {S : Type 0} (step : S → Mark → List ℕ → Next S) where
  -- the ways through `folded`
  fold_goes : (s t : S) (e : Entry) (es : List Entry) → step s e.mark e.fields ≡ goes t
      → folded step s (e ∷ es) ≡ folded_on (folded step t es)
  unfolding folded
  fold_goes s t e es q = rw q

  fold_stops : (s : S) (e : Entry) (es : List Entry) (k : Refusal) → step s e.mark e.fields ≡ stops k
      → folded step s (e ∷ es) ≡ record { state = s; count = 0; end = Refused k }
  unfolding folded
  fold_stops s e es k q = rw q

  fold_leaves : (s : S) (e : Entry) (es : List Entry) → step s e.mark e.fields ≡ leaves
      → folded step s (e ∷ es) ≡ record { state = s; count = 0; end = Left }
  unfolding folded
  fold_leaves s e es q = rw q

  fold_none : (s : S) → folded step s [] ≡ record { state = s; count = 0; end = Cut }
  unfolding folded
  fold_none s = refl

  -- a record in front of all
  one_more : (bs : List ℕ) (m : Mark) → read bs ≡ is.Whole m → (r : Folded S) → counted 1 (after_fold (after m bs) r) ≡ after_fold bs (folded_on r)
  unfolding counted after_fold
  one_more bs m e r = rw (rest_whole r.count bs m e, tail_whole bs m e)

  pub ran_folds : (s : S) (bs : List ℕ) → ran step s bs ≡ after_fold bs (folded step s (parsed bs))
  unfolding after_fold
  ran_folds =
      by_run step (λ s bs r. r ≡ after_fold bs (folded step s (parsed bs)))
      (λ s bs e.
      rw (parsed_cut bs e, fold_none s, rest_none bs, tail_none bs (parsed_cut bs e), tail_cut bs e))
      (λ s bs e.
      rw (parsed_unknown bs e, fold_none s, rest_none bs, tail_none bs (parsed_unknown bs e), tail_unknown bs e))
      (λ s bs m k e q. rw (parsed_whole bs m e, fold_stops s _ _ k q, rest_none bs))
      (λ s bs m e q. rw (parsed_whole bs m e, fold_leaves s _ _ q, rest_none bs))
      (λ s t bs m e q ih.
      ap (counted 1) ih ∙ one_more bs m e (folded step t (parsed (after m bs)))
      ∙ ap (after_fold bs) (sym (ap (folded step s) (parsed_whole bs m e) ∙ fold_goes s t (record { mark = m; fields = fields m bs }) (parsed (after m bs)) q)))

  -- a fold that is not ended by a record took them all
  pub folded_all : (s : S) (es : List Entry) → (folded step s es).end ≡ Cut → (folded step s es).count ≡ length es
  folded_all s [] c = ap (λ (r : Folded S). r.count) (fold_none s)
  folded_all s (e ∷ es) c = go (step s e.mark e.fields) refl (λ t. folded_all t es)
    where
      go : (x : Next S) → step s e.mark e.fields ≡ x → ((t : S) → (folded step t es).end ≡ Cut → (folded step t es).count ≡ length es)
          → (folded step s (e ∷ es)).count ≡ suc (length es)
      go (goes t) q ih =
          let w = fold_goes s t e es q in
          let n : (folded step s (e ∷ es)).count ≡ 1 + (folded step t es).count = ap (λ (r : Folded S). r.count) w in
          omega (arith, n, ih t (ap (λ (r : Folded S). r.end) (sym w) ∙ c))
      go (stops k) q ih =
          let w : (folded step s (e ∷ es)).end ≡ Refused k = ap (λ (r : Folded S). r.end) (fold_stops s e es k q) in
          absurd (let z : ◌≡◌ {A = ℕ} 0 1 = cc in omega arith)
      go leaves q ih =
          let w : (folded step s (e ∷ es)).end ≡ Left = ap (λ (r : Folded S). r.end) (fold_leaves s e es q) in
          absurd (let z : ◌≡◌ {A = ℕ} 0 1 = cc in omega arith)

  rest_all : (bs : List ℕ) → rest_after (length (parsed bs)) bs ≡ tail bs
  unfolding rest_after tail
  rest_all bs = rw (take-length (parsed bs))

  -- the same by what becomes of the fold: every record is taken, or one is refused
  pub folds_all : (s : S) (bs : List ℕ) → (folded step s (parsed bs)).end ≡ Cut
      → ran step s bs ≡ ended (folded step s (parsed bs)).state (length (parsed bs)) (tail bs) (tail_end (tail bs))
  unfolding after_fold
  folds_all s bs c =
      ran_folds s bs
      ∙ rw (c, folded_all s (parsed bs) c, rest_all bs)

  pub folds_refused : (s : S) (bs : List ℕ) (k : Refusal) → (folded step s (parsed bs)).end ≡ Refused k
      → ran step s bs ≡ ended (folded step s (parsed bs)).state (folded step s (parsed bs)).count (rest_after (folded step s (parsed bs)).count bs) (Refused k)
  unfolding after_fold
  folds_refused s bs k c = ran_folds s bs ∙ rw c

  -- a run that comes to the end of the bytes took every whole record, and no unknown mark follows
  pub ran_to_end : (s : S) (bs : List ℕ) → (ran step s bs).end ≡ Cut
      → ((folded step s (parsed bs)).end ≡ Cut)
      × (ran step s bs ≡ ended (folded step s (parsed bs)).state (length (parsed bs)) (tail bs) Cut)
  unfolding after_fold
  ran_to_end s bs c = go (folded step s (parsed bs)).end refl
    where
      told : on_cut (folded step s (parsed bs)).end (tail_end (tail bs)) (folded step s (parsed bs)).end ≡ Cut
      told = ap (λ (r : Run S). r.end) (sym (ran_folds s bs)) ∙ c

      go : (x : End) → (folded step s (parsed bs)).end ≡ x → ((folded step s (parsed bs)).end ≡ Cut)
          × (ran step s bs ≡ ended (folded step s (parsed bs)).state (length (parsed bs)) (tail bs) Cut)
      go Cut e =
          let t : tail_end (tail bs) ≡ Cut = rw e at told in
          (e, folds_all s bs e ∙ ap (ended (folded step s (parsed bs)).state (length (parsed bs)) (tail bs)) t)
      go (Refused k) e = absurd (let t = rw e at told in let z : ◌≡◌ {A = ℕ} 0 1 = cc in omega arith)
      go Left e = absurd (let t = rw e at told in let z : ◌≡◌ {A = ℕ} 0 1 = cc in omega arith)
