-- The turns of a loop over records, for code that holds a place `at` and a count n. What is kept from turn to turn is
-- `ran step first bs ≡ counted n (ran step s (drop at bs))`: the whole run is what is left to run, n records counted before.
use mathlib.Core.List.{List}
use mathlib.Core.Path.{◌≡◌, sym, ap, ◌∙◌}
use Prim.Native.Nat.{ℕ, suc, ◌+◌, ◌-◌, ◌≤◌}
use native.Mathlib.Omega.{arith}
use lib.ListN.{length, take, drop, length-drop}
use lib.Seq.{take_all}
use Rattle.marks.specs.declared.Mark.{Mark}
use Rattle.marks.specs.declared.Record.TheVariants as is
use Rattle.marks.specs.declared.End.{End}
use Rattle.marks.specs.declared.End.TheVariants.{Cut, Refused, Left}
use Rattle.marks.specs.Marks.{read, size, fields, after}
use Rattle.marks.proofs.Readings.{whole_means}
use Rattle.marks.proofs.Parts.{length_after, length_fields, after_drop}
use Rattle.runs.specs.Run.{Next, goes, stops, leaves, ended, run, ran, counted}
use Rattle.runs.proofs.Fuels.{turn_cut, turn_unknown, turn_goes, turn_stops, turn_leaves}
use Rattle.runs.proofs.Counts.{counted_none, counted_ended, counted_twice, run_counts, run_more}
use Rattle.refusals.specs.declared.Refusal.TheVariants.{UnknownMark}
use Rattle.refusals.specs.declared.Refusal.{Refusal}

-- a part of the bytes from a place on, as code makes it
pub part_drop : (at : ℕ) (bs : List ℕ) → take (length bs - at) (drop at bs) ≡ drop at bs
part_drop at bs = take_all (length bs - at) (drop at bs) (omega (arith, length-drop at bs))

-- what is known once a whole record was read: the next place lies within the bytes, and the fields are all there
pub whole_fits : (at : ℕ) (bs : List ℕ) (m : Mark) → at ≤ length bs → read (drop at bs) ≡ is.Whole m → at + (2 + size m) ≤ length bs
whole_fits at bs m h e = omega (arith, (whole_means (drop at bs) m e).1, length-drop at bs)

pub whole_fields : (bs : List ℕ) (m : Mark) → read bs ≡ is.Whole m → length (fields m bs) ≡ size m
whole_fields bs m e = length_fields m bs (whole_means bs m e).1

module _ {S : Type 0} (step : S → Mark → List ℕ → Next S) where
  -- fuel is there for one turn more
  turned : (s : S) (bs : List ℕ) → ran step s bs ≡ run step (suc (length bs)) s 0 bs
  unfolding ran
  turned s bs = run_more step (length bs) (suc (length bs)) s 0 bs (omega arith) (omega arith)

  pub ran_cut : (s : S) (bs : List ℕ) → read bs ≡ is.Cut → ran step s bs ≡ ended s 0 bs Cut
  ran_cut s bs e = turned s bs ∙ turn_cut step (suc (length bs)) s 0 bs e

  pub ran_unknown : (s : S) (bs : List ℕ) → read bs ≡ is.Unknown → ran step s bs ≡ ended s 0 bs (Refused UnknownMark)
  ran_unknown s bs e = turned s bs ∙ turn_unknown step (length bs) s 0 bs e

  pub ran_stops : (s : S) (bs : List ℕ) (m : Mark) (k : Refusal) → read bs ≡ is.Whole m → step s m (fields m bs) ≡ stops k
      → ran step s bs ≡ ended s 0 bs (Refused k)
  ran_stops s bs m k e q = turned s bs ∙ turn_stops step (length bs) s 0 bs m k e q

  pub ran_leaves : (s : S) (bs : List ℕ) (m : Mark) → read bs ≡ is.Whole m → step s m (fields m bs) ≡ leaves
      → ran step s bs ≡ ended s 0 bs Left
  ran_leaves s bs m e q = turned s bs ∙ turn_leaves step (length bs) s 0 bs m e q

  pub ran_goes : (s t : S) (bs : List ℕ) (m : Mark) → read bs ≡ is.Whole m → step s m (fields m bs) ≡ goes t
      → ran step s bs ≡ counted 1 (ran step t (after m bs))
  unfolding ran
  ran_goes s t bs m e q =
      turned s bs
      ∙ turn_goes step (length bs) s t 0 bs m e q
      ∙ run_counts step (length bs) t 1 (after m bs)
      ∙ ap (counted 1) (run_more step (length bs) (length (after m bs)) t 0 (after m bs) (omega (arith, length_after m bs)) (omega arith))

  -- a run with fuel enough
  pub run_left : (f : ℕ) (s : S) (n : ℕ) (bs : List ℕ) → length bs ≤ f → run step f s n bs ≡ counted n (ran step s bs)
  unfolding ran
  run_left f s n bs h = run_counts step f s n bs ∙ ap (counted n) (run_more step f (length bs) s 0 bs h (omega arith))

  -- the loop's start, and one law for each way through its body
  pub run_start : (s : S) (bs : List ℕ) → ran step s bs ≡ counted 0 (ran step s (drop 0 bs))
  run_start s bs = sym (counted_none (ran step s bs))

  pub run_goes : (at : ℕ) (bs : List ℕ) (s t : S) (n : ℕ) (m : Mark) → read (drop at bs) ≡ is.Whole m → step s m (fields m (drop at bs)) ≡ goes t
      → counted n (ran step s (drop at bs)) ≡ counted (n + 1) (ran step t (drop (at + (2 + size m)) bs))
  run_goes at bs s t n m e q =
      ap (counted n) (ran_goes s t (drop at bs) m e q ∙ ap (λ l. counted 1 (ran step t l)) (after_drop m at bs))
      ∙ counted_twice n 1 (ran step t (drop (at + (2 + size m)) bs))

  over : (n : ℕ) (s : S) (bs : List ℕ) (x : End) → ran step s bs ≡ ended s 0 bs x → counted n (ran step s bs) ≡ ended s n bs x
  over n s bs x e = ap (counted n) e ∙ counted_ended n 0 s bs x ∙ ap (λ k. ended s k bs x) (omega arith)

  pub run_stops : (s : S) (n : ℕ) (bs : List ℕ) (m : Mark) (k : Refusal) → read bs ≡ is.Whole m → step s m (fields m bs) ≡ stops k
      → counted n (ran step s bs) ≡ ended s n bs (Refused k)
  run_stops s n bs m k e q = over n s bs (Refused k) (ran_stops s bs m k e q)

  pub run_leaves : (s : S) (n : ℕ) (bs : List ℕ) (m : Mark) → read bs ≡ is.Whole m → step s m (fields m bs) ≡ leaves
      → counted n (ran step s bs) ≡ ended s n bs Left
  run_leaves s n bs m e q = over n s bs Left (ran_leaves s bs m e q)

  pub run_cut : (s : S) (n : ℕ) (bs : List ℕ) → read bs ≡ is.Cut → counted n (ran step s bs) ≡ ended s n bs Cut
  run_cut s n bs e = over n s bs Cut (ran_cut s bs e)

  pub run_unknown : (s : S) (n : ℕ) (bs : List ℕ) → read bs ≡ is.Unknown → counted n (ran step s bs) ≡ ended s n bs (Refused UnknownMark)
  run_unknown s n bs e = over n s bs (Refused UnknownMark) (ran_unknown s bs e)
