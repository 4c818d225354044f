-- What is kept by each of the five things that can be met is true of every run.
use mathlib.Core.List.{List}
use mathlib.Core.Path.{◌≡◌, sym, subst}
use Prim.Native.Nat.{ℕ, zero, suc, ◌≤◌}
use native.Mathlib.Omega.{arith}
use lib.ListN.{length}
use Rattle.marks.specs.declared.Mark.{Mark}
use Rattle.marks.specs.declared.Record.TheVariants as is
use Rattle.marks.specs.declared.End.TheVariants.{Cut, Refused, Left}
use Rattle.marks.specs.Marks.{read, fields, after}
use Rattle.marks.proofs.Readings.{read_short}
use Rattle.marks.proofs.Parts.{length_after}
use Rattle.runs.specs.Run.{Next, goes, stops, leaves, Run, ended, ran, counted}
use Rattle.runs.proofs.Fuels.{Met, cut, unknown, taken, refused, left, met}
use Rattle.runs.proofs.Turns.{ran_cut, ran_unknown, ran_goes, ran_stops, ran_leaves}
use Rattle.refusals.specs.declared.Refusal.TheVariants.{UnknownMark}
use Rattle.refusals.specs.declared.Refusal.{Refusal}

module _ {S : Type 0} (step : S → Mark → List ℕ → Next S) (P : S → List ℕ → Run S → Type 0)
    (at_cut : (s : S) (bs : List ℕ) → read bs ≡ is.Cut → P s bs (ended s 0 bs Cut))
    (at_unknown : (s : S) (bs : List ℕ) → read bs ≡ is.Unknown → P s bs (ended s 0 bs (Refused UnknownMark)))
    (at_Stops : (s : S) (bs : List ℕ) (m : Mark) (k : Refusal) → read bs ≡ is.Whole m → step s m (fields m bs) ≡ stops k → P s bs (ended s 0 bs (Refused k)))
    (at_leaves : (s : S) (bs : List ℕ) (m : Mark) → read bs ≡ is.Whole m → step s m (fields m bs) ≡ leaves → P s bs (ended s 0 bs Left))
    (at_goes : (s t : S) (bs : List ℕ) (m : Mark) → read bs ≡ is.Whole m → step s m (fields m bs) ≡ goes t → P t (after m bs) (ran step t (after m bs))
    → P s bs (counted 1 (ran step t (after m bs))))
  where
    within : (f : ℕ) (s : S) (bs : List ℕ) → length bs ≤ f → P s bs (ran step s bs)
    within zero s bs h = let e = read_short bs (omega arith) in subst (P s bs) (sym (ran_cut step s bs e)) (at_cut s bs e)
    within (suc f) s bs h = go (met step s bs) (within f)
      where
        go : Met step s bs → ((t : S) (cs : List ℕ) → length cs ≤ f → P t cs (ran step t cs)) → P s bs (ran step s bs)
        go (cut e) ih = subst (P s bs) (sym (ran_cut step s bs e)) (at_cut s bs e)
        go (unknown e) ih = subst (P s bs) (sym (ran_unknown step s bs e)) (at_unknown s bs e)
        go (refused m k e q) ih = subst (P s bs) (sym (ran_stops step s bs m k e q)) (at_Stops s bs m k e q)
        go (left m e q) ih = subst (P s bs) (sym (ran_leaves step s bs m e q)) (at_leaves s bs m e q)
        go (taken m t e q) ih =
            subst (P s bs) (sym (ran_goes step s t bs m e q))
            (at_goes s t bs m e q (ih t (after m bs) (omega (arith, length_after m bs))))

    pub by_run : (s : S) (bs : List ℕ) → P s bs (ran step s bs)
    by_run s bs = within (length bs) s bs (omega arith)

-- the same over the bytes alone
pub by_records : (P : List ℕ → Type 0)
    → ((bs : List ℕ) → read bs ≡ is.Cut → P bs)
    → ((bs : List ℕ) → read bs ≡ is.Unknown → P bs)
    → ((bs : List ℕ) (m : Mark) → read bs ≡ is.Whole m → P (after m bs) → P bs)
    → (bs : List ℕ) → P bs
by_records P at_cut at_unknown at_whole =
    by_run (λ (s : ℕ) m fs. goes s) (λ s bs r. P bs)
    (λ s bs e. at_cut bs e)
    (λ s bs e. at_unknown bs e)
    (λ s bs m k e q. absurd (let z : ◌≡◌ {A = ℕ} 0 1 = cc in omega arith))
    (λ s bs m e q. absurd (let z : ◌≡◌ {A = ℕ} 0 1 = cc in omega arith))
    (λ s t bs m e q ih. at_whole bs m e ih) 0
