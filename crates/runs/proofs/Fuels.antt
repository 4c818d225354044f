-- What can be met at the start of some bytes, and what one turn of `run` makes of it, with fuel left.
use mathlib.Core.List.{List}
use mathlib.Core.Path.{◌≡◌, refl}
use Prim.Native.Nat.{ℕ, zero, suc, ◌+◌}
use Rattle.marks.specs.declared.Mark.{Mark}
use Rattle.marks.specs.declared.Record.{Record}
use Rattle.marks.specs.declared.Record.TheVariants as is
use Rattle.marks.specs.declared.End.TheVariants.{Cut, Refused, Left}
use Rattle.marks.specs.Marks.{read, fields, after}
use Rattle.runs.specs.Run.{Next, goes, stops, leaves, ended, run}
use Rattle.refusals.specs.declared.Refusal.TheVariants.{UnknownMark}
use Rattle.refusals.specs.declared.Refusal.{Refusal}

module _ {S : Type 0} (step : S → Mark → List ℕ → Next S) where
  pub data Met (s : S) (bs : List ℕ) : Type 0 where
    cut : read bs ≡ is.Cut → Met s bs
    unknown : read bs ≡ is.Unknown → Met s bs
    taken : (m : Mark) (t : S) → read bs ≡ is.Whole m → step s m (fields m bs) ≡ goes t → Met s bs
    refused : (m : Mark) (k : Refusal) → read bs ≡ is.Whole m → step s m (fields m bs) ≡ stops k → Met s bs
    left : (m : Mark) → read bs ≡ is.Whole m → step s m (fields m bs) ≡ leaves → Met s bs

  pub met : (s : S) (bs : List ℕ) → Met s bs
  met s bs = at_read (read bs) refl
    where
      at_next : (m : Mark) → read bs ≡ is.Whole m → (x : Next S) → step s m (fields m bs) ≡ x → Met s bs
      at_next m e (goes t) q = taken m t e q
      at_next m e (stops k) q = refused m k e q
      at_next m e leaves q = left m e q

      at_read : (x : Record) → read bs ≡ x → Met s bs
      at_read (is.Whole m) e = at_next m e (step s m (fields m bs)) refl
      at_read is.Cut e = cut e
      at_read is.Unknown e = unknown e

  -- the turns of `run`, with fuel left
  pub turn_none : (s : S) (n : ℕ) (bs : List ℕ) → run step 0 s n bs ≡ ended s n bs Cut
  unfolding run
  turn_none s n bs = refl

  pub turn_cut : (f : ℕ) (s : S) (n : ℕ) (bs : List ℕ) → read bs ≡ is.Cut → run step f s n bs ≡ ended s n bs Cut
  unfolding run
  turn_cut zero s n bs e = turn_none s n bs
  turn_cut (suc f) s n bs e = rw e

  pub turn_unknown : (f : ℕ) (s : S) (n : ℕ) (bs : List ℕ) → read bs ≡ is.Unknown → run step (suc f) s n bs ≡ ended s n bs (Refused UnknownMark)
  unfolding run
  turn_unknown f s n bs e = rw e

  pub turn_goes : (f : ℕ) (s t : S) (n : ℕ) (bs : List ℕ) (m : Mark) → read bs ≡ is.Whole m → step s m (fields m bs) ≡ goes t
      → run step (suc f) s n bs ≡ run step f t (n + 1) (after m bs)
  unfolding run
  turn_goes f s t n bs m e q = rw (e, q)

  pub turn_stops : (f : ℕ) (s : S) (n : ℕ) (bs : List ℕ) (m : Mark) (k : Refusal) → read bs ≡ is.Whole m → step s m (fields m bs) ≡ stops k
      → run step (suc f) s n bs ≡ ended s n bs (Refused k)
  unfolding run
  turn_stops f s n bs m k e q = rw (e, q)

  pub turn_leaves : (f : ℕ) (s : S) (n : ℕ) (bs : List ℕ) (m : Mark) → read bs ≡ is.Whole m → step s m (fields m bs) ≡ leaves
      → run step (suc f) s n bs ≡ ended s n bs Left
  unfolding run
  turn_leaves f s n bs m e q = rw (e, q)
