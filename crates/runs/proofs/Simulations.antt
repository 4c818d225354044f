-- One turn's step inside a larger one: where every state of the small step has its place e in the large one, and the large step does
-- what the small one does, a large run is the small run, and goes on by itself where a record of another turn comes. P is what the
-- small step keeps and the large one may ask; where nothing is asked, it is true of every state.
use mathlib.Core.List.{List}
use mathlib.Core.Path.{◌≡◌, refl, sym, ap, ◌∙◌}
use Prim.Native.Nat.{ℕ, ◌+◌}
use Rattle.marks.specs.declared.Mark.{Mark}
use Rattle.marks.specs.declared.End.{End}
use Rattle.marks.specs.declared.End.TheVariants.{Cut, Refused, Left}
use Rattle.marks.specs.Marks.{fields, after}
use Rattle.runs.specs.Run.{Next, goes, stops, Run, ended, ran, counted}
use Rattle.runs.specs.Follow.{carried}
use Rattle.runs.proofs.Counts.{counted_none, counted_twice, counted_ended, counted_parts}
use Rattle.runs.proofs.Turns.{ran_cut, ran_unknown, ran_goes, ran_stops}
use Rattle.runs.proofs.Inductions.{by_run}
use Rattle.refusals.specs.declared.Refusal.TheVariants.{UnknownMark}
use Rattle.refusals.specs.declared.Refusal.{Refusal}

module _ {S J : Type 0} (took : J → Mark → List ℕ → Next J) (e : S → J) where
  -- the ways to go on, by the end of the run
  pub carried_cut : (r : Run S) → r.end ≡ Cut → carried took e r ≡ ended (e r.state) r.count r.rest Cut
  unfolding carried
  carried_cut r q = rw q

  pub carried_refused : (r : Run S) (k : Refusal) → r.end ≡ Refused k → carried took e r ≡ ended (e r.state) r.count r.rest (Refused k)
  unfolding carried
  carried_refused r k q = rw q

  pub carried_left : (r : Run S) → r.end ≡ Left → carried took e r ≡ counted r.count (ran took (e r.state) r.rest)
  unfolding carried
  carried_left r q = rw q

  carried_counted : (n : ℕ) (r : Run S) → counted n (carried took e r) ≡ carried took e (counted n r)
  carried_counted n r = go r.end refl ∙ ap (carried took e) (sym (counted_parts n r))
    where
      go : (x : End) → r.end ≡ x → counted n (carried took e r) ≡ carried took e (ended r.state (n + r.count) r.rest r.end)
      go Cut q =
          ap (counted n) (carried_cut r q)
          ∙ counted_ended n r.count (e r.state) r.rest Cut
          ∙ sym (carried_cut (ended r.state (n + r.count) r.rest r.end) q)
      go (Refused k) q =
          ap (counted n) (carried_refused r k q)
          ∙ counted_ended n r.count (e r.state) r.rest (Refused k)
          ∙ sym (carried_refused (ended r.state (n + r.count) r.rest r.end) k q)
      go Left q =
          ap (counted n) (carried_left r q)
          ∙ counted_twice n r.count (ran took (e r.state) r.rest)
          ∙ sym (carried_left (ended r.state (n + r.count) r.rest r.end) q)

module _ {S J : Type 0} (step : S → Mark → List ℕ → Next S) (took : J → Mark → List ℕ → Next J) (e : S → J) (P : S → Type 0)
    (on_goes : (s t : S) (m : Mark) (fs : List ℕ) → P s → step s m fs ≡ goes t → (took (e s) m fs ≡ goes (e t)) × P t)
    (on_stops : (s : S) (m : Mark) (fs : List ℕ) (k : Refusal) → P s → step s m fs ≡ stops k → took (e s) m fs ≡ stops k) where
  pub run_simulates : (s : S) (bs : List ℕ) → P s → (ran took (e s) bs ≡ carried took e (ran step s bs)) × P (ran step s bs).state
  unfolding counted
  run_simulates =
      by_run step (λ s bs r. P s → (ran took (e s) bs ≡ carried took e r) × P r.state)
      (λ s bs c p. (ran_cut took (e s) bs c ∙ sym (carried_cut took e (ended s 0 bs Cut) refl), p))
      (λ s bs u p. (ran_unknown took (e s) bs u ∙ sym (carried_refused took e (ended s 0 bs (Refused UnknownMark)) UnknownMark refl), p))
      (λ s bs m k w q p.
      (ran_stops took (e s) bs m k w (on_stops s m (fields m bs) k p q) ∙ sym (carried_refused took e (ended s 0 bs (Refused k)) k refl), p))
      (λ s bs m w q p. (sym (carried_left took e (ended s 0 bs Left) refl ∙ counted_none (ran took (e s) bs)), p))
      (λ s t bs m w q ih p.
      let g = on_goes s t m (fields m bs) p q in
      let i = ih g.1 in
      (ran_goes took (e s) (e t) bs m w g.0 ∙ ap (counted 1) i.0 ∙ carried_counted took e 1 (ran step t (after m bs)), i.1))
