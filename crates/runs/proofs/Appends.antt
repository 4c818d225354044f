-- Bytes that come behind: a run over some bytes and a run over what it left, with more behind, are the run over all.
use mathlib.Core.List.{List, ◌++◌}
use mathlib.Core.Path.{◌≡◌, refl, sym, ap, ◌∙◌}
use Prim.Native.Nat.{ℕ, ◌+◌}
use Rattle.marks.specs.declared.Mark.{Mark}
use Rattle.marks.specs.declared.Record.TheVariants as is
use Rattle.marks.specs.declared.End.{End}
use Rattle.marks.specs.declared.End.TheVariants.{Cut, Refused, Left}
use Rattle.marks.specs.Marks.{read, fields, after}
use Rattle.marks.proofs.Readings.{whole_means}
use Rattle.marks.proofs.Parts.{whole_more, unknown_more, fields_more, after_more}
use Rattle.runs.specs.Run.{Next, Run, ended, ran, counted}
use Rattle.runs.specs.Follow.{continued}
use Rattle.runs.proofs.Counts.{counted_none, counted_twice, counted_ended, counted_parts}
use Rattle.runs.proofs.Turns.{ran_unknown, ran_goes, ran_stops, ran_leaves}
use Rattle.runs.proofs.Inductions.{by_run}
use Rattle.refusals.specs.declared.Refusal.TheVariants.{UnknownMark}
use Rattle.refusals.specs.declared.Refusal.{Refusal}

module _ {S : Type 0} (step : S → Mark → List ℕ → Next S) (b : List ℕ) where
  -- the ways to go on, by the end of the run
  pub continued_cut : (r : Run S) → r.end ≡ Cut → continued step b r ≡ counted r.count (ran step r.state (r.rest ++ b))
  unfolding continued
  continued_cut r e = rw e

  pub continued_refused : (r : Run S) (k : Refusal) → r.end ≡ Refused k → continued step b r ≡ ended r.state r.count (r.rest ++ b) (Refused k)
  unfolding continued
  continued_refused r k e = rw e

  pub continued_left : (r : Run S) → r.end ≡ Left → continued step b r ≡ ended r.state r.count (r.rest ++ b) Left
  unfolding continued
  continued_left r e = rw e

  continued_counted : (n : ℕ) (r : Run S) → counted n (continued step b r) ≡ continued step b (counted n r)
  continued_counted n r = go r.end refl ∙ ap (continued step b) (sym (counted_parts n r))
    where
      go : (e : End) → r.end ≡ e → counted n (continued step b r) ≡ continued step b (ended r.state (n + r.count) r.rest r.end)
      go Cut e =
          ap (counted n) (continued_cut r e)
          ∙ counted_twice n r.count (ran step r.state (r.rest ++ b))
          ∙ sym (continued_cut (ended r.state (n + r.count) r.rest r.end) e)
      go (Refused k) e =
          ap (counted n) (continued_refused r k e)
          ∙ counted_ended n r.count r.state (r.rest ++ b) (Refused k)
          ∙ sym (continued_refused (ended r.state (n + r.count) r.rest r.end) k e)
      go Left e =
          ap (counted n) (continued_left r e)
          ∙ counted_ended n r.count r.state (r.rest ++ b) Left
          ∙ sym (continued_left (ended r.state (n + r.count) r.rest r.end) e)

  pub run_append : (s : S) (a : List ℕ) → ran step s (a ++ b) ≡ continued step b (ran step s a)
  run_append =
      by_run step (λ s a r. ran step s (a ++ b) ≡ continued step b r)
      (λ s a e. sym (continued_cut (ended s 0 a Cut) refl ∙ counted_none (ran step s (a ++ b))))
      (λ s a e. ran_unknown step s (a ++ b) (unknown_more a b e) ∙ sym (continued_refused (ended s 0 a (Refused UnknownMark)) UnknownMark refl))
      (λ s a m k e q.
      ran_stops step s (a ++ b) m k (whole_more a b m e) (same s a m e ∙ q) ∙ sym (continued_refused (ended s 0 a (Refused k)) k refl))
      (λ s a m e q. ran_leaves step s (a ++ b) m (whole_more a b m e) (same s a m e ∙ q) ∙ sym (continued_left (ended s 0 a Left) refl))
      (λ s t a m e q ih.
      ran_goes step s t (a ++ b) m (whole_more a b m e) (same s a m e ∙ q)
      ∙ ap (counted 1) (ap (ran step t) (after_more m a b (whole_means a m e).1) ∙ ih)
      ∙ continued_counted 1 (ran step t (after m a)))
    where
      same : (s : S) (a : List ℕ) (m : Mark) → read a ≡ is.Whole m → step s m (fields m (a ++ b)) ≡ step s m (fields m a)
      same s a m e = ap (step s m) (fields_more m a b (whole_means a m e).1)

  pub append_cut : (s : S) (a : List ℕ) → (ran step s a).end ≡ Cut
      → ran step s (a ++ b) ≡ counted (ran step s a).count (ran step (ran step s a).state ((ran step s a).rest ++ b))
  append_cut s a e = run_append s a ∙ continued_cut (ran step s a) e

  pub append_refused : (s : S) (a : List ℕ) (k : Refusal) → (ran step s a).end ≡ Refused k
      → ran step s (a ++ b) ≡ ended (ran step s a).state (ran step s a).count ((ran step s a).rest ++ b) (Refused k)
  append_refused s a k e = run_append s a ∙ continued_refused (ran step s a) k e

  pub append_left : (s : S) (a : List ℕ) → (ran step s a).end ≡ Left
      → ran step s (a ++ b) ≡ ended (ran step s a).state (ran step s a).count ((ran step s a).rest ++ b) Left
  append_left s a e = run_append s a ∙ continued_left (ran step s a) e
