-- What a run leaves: the end of the bytes; after a run to the end, less than one record.
use mathlib.Core.List.{List, [], ◌++◌, append_assoc}
use mathlib.Core.Path.{◌≡◌, refl, sym, ap, ◌∙◌}
use Prim.Native.Nat.{ℕ, ◌+◌, ◌-◌, ◌≤◌, ◌<◌}
use native.Mathlib.Omega.{arith}
use lib.ListN.{length, take, drop, length-append, take-append-drop}
use lib.Seq.{drop_at}
use Rattle.marks.specs.declared.Mark.{Mark}
use Rattle.marks.specs.declared.Record.TheVariants as is
use Rattle.marks.specs.declared.End.TheVariants.{Cut}
use Rattle.marks.specs.Marks.{read, size, after}
use Rattle.marks.proofs.Readings.{whole_means, cut_short}
use Rattle.marks.proofs.Parts.{length_after}
use Rattle.runs.specs.Run.{Next, ended, ran, counted}
use Rattle.runs.proofs.Inductions.{by_run}

module _ {S : Type 0} (step : S → Mark → List ℕ → Next S) where
  pub rest_cut : (s : S) (bs : List ℕ) → (ran step s bs).end ≡ Cut → read (ran step s bs).rest ≡ is.Cut
  unfolding counted
  rest_cut =
      by_run step (λ s bs r. r.end ≡ Cut → read r.rest ≡ is.Cut)
      (λ s bs e c. e)
      (λ s bs e c. absurd (let z : ◌≡◌ {A = ℕ} 0 1 = cc in omega arith))
      (λ s bs m k e q c. absurd (let z : ◌≡◌ {A = ℕ} 0 1 = cc in omega arith))
      (λ s bs m e q c. absurd (let z : ◌≡◌ {A = ℕ} 0 1 = cc in omega arith))
      (λ s t bs m e q ih. ih)

  pub rest_short : (s : S) (bs : List ℕ) → (ran step s bs).end ≡ Cut → length (ran step s bs).rest < 22
  rest_short s bs c = cut_short (ran step s bs).rest (rest_cut s bs c)

  pub rest_end : (s : S) (bs : List ℕ) → (front : List ℕ) × (bs ≡ front ++ (ran step s bs).rest)
  unfolding counted after
  rest_end =
      by_run step (λ s bs r. (front : List ℕ) × (bs ≡ front ++ r.rest))
      (λ s bs e. ([], refl))
      (λ s bs e. ([], refl))
      (λ s bs m k e q. ([], refl))
      (λ s bs m e q. ([], refl))
      (λ s t bs m e q ih. (
        take (2 + size m) bs ++ ih.0,
        sym (take-append-drop (2 + size m) bs)
            ∙ ap (λ (l : List ℕ). take (2 + size m) bs ++ l) ih.1
            ∙ sym (append_assoc (take (2 + size m) bs) ih.0 (ran step t (drop (2 + size m) bs)).rest),
      ))

  pub rest_length : (s : S) (bs : List ℕ) → length (ran step s bs).rest ≤ length bs
  rest_length s bs =
      let w = rest_end s bs in omega (arith, ap length w.1, length-append w.0 (ran step s bs).rest)

  -- the place at which a run ends
  pub rest_drop : (s : S) (bs : List ℕ) → drop (length bs - length (ran step s bs).rest) bs ≡ (ran step s bs).rest
  rest_drop s bs =
      let w = rest_end s bs in
      let n : length w.0 ≡ length bs - length (ran step s bs).rest =
      omega (arith, ap length w.1, length-append w.0 (ran step s bs).rest) in
      ap (drop (length bs - length (ran step s bs).rest)) w.1 ∙ drop_at w.0 (ran step s bs).rest (length bs - length (ran step s bs).rest) n

  -- no record taken: nothing moved
  pub none_taken : (s : S) (bs : List ℕ) → (ran step s bs).count ≡ 0 → ran step s bs ≡ ended s 0 bs (ran step s bs).end
  unfolding counted
  none_taken =
      by_run step (λ s bs r. r.count ≡ 0 → r ≡ ended s 0 bs r.end)
      (λ s bs e c. refl)
      (λ s bs e c. refl)
      (λ s bs m k e q c. refl)
      (λ s bs m e q c. refl)
      (λ s t bs m e q ih c. absurd (omega arith))

  -- some record taken: the first was whole, and what is left begins after it or later
  pub some_taken : (s : S) (bs : List ℕ) → 0 < (ran step s bs).count
      → (m : Mark) × (read bs ≡ is.Whole m) × (length (ran step s bs).rest + (2 + size m) ≤ length bs)
  unfolding counted
  some_taken =
      by_run step (λ s bs r. 0 < r.count → (m : Mark) × (read bs ≡ is.Whole m) × (length r.rest + (2 + size m) ≤ length bs))
      (λ s bs e c. absurd (omega arith))
      (λ s bs e c. absurd (omega arith))
      (λ s bs m k e q c. absurd (omega arith))
      (λ s bs m e q c. absurd (omega arith))
      (λ s t bs m e q ih c. (m, e, omega (arith, rest_length t (after m bs), length_after m bs, (whole_means bs m e).1)))
