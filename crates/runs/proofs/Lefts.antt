-- Where a run is left, a whole record stands that the step leaves to another turn.
use mathlib.Core.List.{List}
use mathlib.Core.Path.{◌≡◌}
use Prim.Native.Nat.{ℕ}
use native.Mathlib.Omega.{arith}
use Rattle.marks.specs.declared.Mark.{Mark}
use Rattle.marks.specs.declared.Record.TheVariants as is
use Rattle.marks.specs.declared.End.TheVariants.{Left}
use Rattle.marks.specs.Marks.{read, fields}
use Rattle.runs.specs.Run.{Next, leaves, Run, ran, counted}
use Rattle.runs.proofs.Inductions.{by_run}

module _ {S : Type 0} (step : S → Mark → List ℕ → Next S) where
  pub record Leaves (r : Run S) : Type 0 where
    pub mark : Mark
    pub reads : read r.rest ≡ is.Whole mark
    pub is_left : step r.state mark (fields mark r.rest) ≡ leaves

  pub left_leaves : (s : S) (bs : List ℕ) → (ran step s bs).end ≡ Left → Leaves (ran step s bs)
  unfolding counted
  left_leaves =
      by_run step (λ s bs r. r.end ≡ Left → Leaves r)
      (λ s bs e q. absurd (let z : ◌≡◌ {A = ℕ} 0 1 = cc in omega arith))
      (λ s bs e q. absurd (let z : ◌≡◌ {A = ℕ} 0 1 = cc in omega arith))
      (λ s bs m k e x q. absurd (let z : ◌≡◌ {A = ℕ} 0 1 = cc in omega arith))
      (λ s bs m e x q. record { mark = m; reads = e; is_left = x })
      (λ s t bs m e x ih q. let l = ih q in record { mark = l.mark; reads = l.reads; is_left = l.is_left })
