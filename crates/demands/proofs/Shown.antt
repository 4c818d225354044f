-- What the four calls tell of a round that keeps the shape rules is what it stores, by id and number.
use mathlib.Core.Bool.{Bool, true, false}
use mathlib.Core.Path.{◌≡◌, refl, ◌∙◌}
use mathlib.Core.Logic.{◌↔◌}
use Prim.Native.Nat.{ℕ}
use native.Mathlib.Omega.{arith}
use lib.Dec.{T}
use Rattle.loops.proofs.Tests.{true_T}
use Rattle.round.specs.declared.Round.{Round}
use Rattle.round.specs.Shape.{shaped}
use Rattle.round.specs.Calls.{block_of}
use Rattle.round.specs.Ask.{state, state_of, finalized, estimate, completable}
use Rattle.round_laws.specs.Later.{answers_of}
use Rattle.demands.specs.First.{Keeps}
use Rattle.demands.specs.Second.{shown, ghost_told}
use Rattle.std.specs.Prelude.{Option, Some, None, Result, Ok}
use Rattle.refusals.specs.declared.Refusal.{Refusal}
use Rattle.round.specs.declared.State.{State}

block_shown : (r : Round) (o : Option ℕ) → Ok (block_of r.table.ids r.table.numbers o) ≡ shown r o
block_shown r (Some b) = refl
block_shown r None = refl

module _ (r : Round) (t : Keeps r) where
  state_is : state r ≡ Ok (state_of r)
  unfolding state
  state_is = rw (true_T (shaped r) t)

  pub ghost_shown : ghost_told (state r) ≡ shown r (answers_of r).ghost
  ghost_shown = rw state_is (block_shown r r.answers.prevote)

  finalized_is : finalized r ≡ Ok (block_of r.table.ids r.table.numbers r.answers.finalized)
  unfolding finalized
  finalized_is = rw (true_T (shaped r) t)

  pub finalized_shown : finalized r ≡ shown r (answers_of r).finalized
  finalized_shown = finalized_is ∙ block_shown r r.answers.finalized

  estimate_is : estimate r ≡ Ok (block_of r.table.ids r.table.numbers r.answers.estimate)
  unfolding estimate
  estimate_is = rw (true_T (shaped r) t)

  pub estimate_shown : estimate r ≡ shown r (answers_of r).estimate
  estimate_shown = estimate_is ∙ block_shown r r.answers.estimate

  pub completable_shown : completable r ≡ Ok r.answers.completable
  unfolding completable
  completable_shown = rw (true_T (shaped r) t)

  pub state_shown : (s : State) × (state r ≡ Ok s)
      × (finalized r ≡ Ok s.finalized) × (estimate r ≡ Ok s.estimate) × (completable r ≡ Ok s.completable)
  state_shown = (state_of r, state_is, finalized_is, estimate_is, completable_shown)

  yes_or_no : (b : Bool) → ◌≡◌ {A = Result Bool Refusal} (Ok b) (Ok true) ↔ T b
  yes_or_no true = ((λ e. tt), λ e. refl)
  yes_or_no false = ((λ e. absurd (let z : ◌≡◌ {A = ℕ} 0 1 = cc in omega arith)), λ e. absurd e)

  pub completable_yes : (completable r ≡ Ok true) ↔ T r.answers.completable
  completable_yes = rw completable_shown (yes_or_no r.answers.completable)
