-- The count of a run that starts at n is n more, and fuel beyond the number of bytes changes nothing.
use mathlib.Core.List.{List}
use mathlib.Core.Path.{◌≡◌, refl, sym, ap, ◌∙◌}
use Prim.Native.Nat.{ℕ, zero, suc, ◌+◌, ◌≤◌}
use native.Mathlib.Omega.{arith}
use lib.ListN.{length}
use Rattle.marks.specs.declared.Mark.{Mark}
use Rattle.marks.specs.declared.End.{End}
use Rattle.marks.specs.declared.End.TheVariants.{Cut, Refused, Left}
use Rattle.marks.specs.Marks.{after}
use Rattle.marks.proofs.Readings.{read_short}
use Rattle.marks.proofs.Parts.{length_after}
use Rattle.runs.specs.Run.{Next, Run, ended, run, counted}
use Rattle.runs.proofs.Fuels.{Met, cut, unknown, taken, refused, left, met, turn_none, turn_cut, turn_unknown, turn_goes, turn_stops, turn_leaves}
use Rattle.refusals.specs.declared.Refusal.TheVariants.{UnknownMark}

pub counted_none : {S : Type 0} (r : Run S) → counted 0 r ≡ r
unfolding counted
counted_none r = ap (λ n. record { state = r.state; count = n; rest = r.rest; end = r.end }) (omega arith)

pub counted_twice : {S : Type 0} (m n : ℕ) (r : Run S) → counted m (counted n r) ≡ counted (m + n) r
unfolding counted
counted_twice m n r = ap (λ k. record { state = r.state; count = k; rest = r.rest; end = r.end }) (omega arith)

pub counted_ended : {S : Type 0} (m n : ℕ) (s : S) (bs : List ℕ) (e : End) → counted m (ended s n bs e) ≡ ended s (m + n) bs e
unfolding counted
counted_ended m n s bs e = refl

pub counted_parts : {S : Type 0} (n : ℕ) (r : Run S) → counted n r ≡ ended r.state (n + r.count) r.rest r.end
unfolding counted
counted_parts n r = refl

module _ {S : Type 0} (step : S → Mark → List ℕ → Next S) where
  pub run_counts : (f : ℕ) (s : S) (n : ℕ) (bs : List ℕ) → run step f s n bs ≡ counted n (run step f s 0 bs)
  run_counts zero s n bs = rw (turn_none step s n bs, turn_none step s 0 bs, counted_ended) (ap (λ k. ended s k bs Cut) (omega arith))
  run_counts (suc f) s n bs = go (met step s bs) (run_counts f)
    where
      over : (x : End) → run step (suc f) s n bs ≡ ended s n bs x → run step (suc f) s 0 bs ≡ ended s 0 bs x
          → run step (suc f) s n bs ≡ counted n (run step (suc f) s 0 bs)
      over x p q = rw (p, q, counted_ended) (ap (λ k. ended s k bs x) (omega arith))

      go : Met step s bs → ((t : S) (k : ℕ) (cs : List ℕ) → run step f t k cs ≡ counted k (run step f t 0 cs))
          → run step (suc f) s n bs ≡ counted n (run step (suc f) s 0 bs)
      go (cut e) ih = over Cut (turn_cut step (suc f) s n bs e) (turn_cut step (suc f) s 0 bs e)
      go (unknown e) ih = over (Refused UnknownMark) (turn_unknown step f s n bs e) (turn_unknown step f s 0 bs e)
      go (refused m k e q) ih = over (Refused k) (turn_stops step f s n bs m k e q) (turn_stops step f s 0 bs m k e q)
      go (left m e q) ih = over Left (turn_leaves step f s n bs m e q) (turn_leaves step f s 0 bs m e q)
      go (taken m t e q) ih =
          turn_goes step f s t n bs m e q
          ∙ ih t (n + 1) (after m bs)
          ∙ sym (counted_twice n 1 (run step f t 0 (after m bs)))
          ∙ ap (counted n) (sym (turn_goes step f s t 0 bs m e q ∙ ih t 1 (after m bs)))

  pub run_more : (f g : ℕ) (s : S) (n : ℕ) (bs : List ℕ) → length bs ≤ f → length bs ≤ g → run step f s n bs ≡ run step g s n bs
  run_more zero g s n bs h l =
      let e = read_short bs (omega arith) in turn_cut step 0 s n bs e ∙ sym (turn_cut step g s n bs e)
  run_more (suc f) zero s n bs h l =
      let e = read_short bs (omega arith) in turn_cut step (suc f) s n bs e ∙ sym (turn_cut step 0 s n bs e)
  run_more (suc f) (suc g) s n bs h l = go (met step s bs) (run_more f g)
    where
      go : Met step s bs → ((t : S) (k : ℕ) (cs : List ℕ) → length cs ≤ f → length cs ≤ g → run step f t k cs ≡ run step g t k cs)
          → run step (suc f) s n bs ≡ run step (suc g) s n bs
      go (cut e) ih = turn_cut step (suc f) s n bs e ∙ sym (turn_cut step (suc g) s n bs e)
      go (unknown e) ih = turn_unknown step f s n bs e ∙ sym (turn_unknown step g s n bs e)
      go (refused m k e q) ih = turn_stops step f s n bs m k e q ∙ sym (turn_stops step g s n bs m k e q)
      go (left m e q) ih = turn_leaves step f s n bs m e q ∙ sym (turn_leaves step g s n bs m e q)
      go (taken m t e q) ih =
          turn_goes step f s t n bs m e q
          ∙ ih t (n + 1) (after m bs) (omega (arith, length_after m bs)) (omega (arith, length_after m bs))
          ∙ sym (turn_goes step g s t n bs m e q)
