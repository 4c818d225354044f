-- What the test of a round says to the calls that only read it.
use Rattle.std.specs.Prelude.{Bool, true, false, cond, Result, Ok, Err, ⊤, IsErrAnd, ℕ}
use Rattle.std.proofs.lemmas.Result.{err_from_is_err_and}
use mathlib.Core.Path.{◌≡◌, refl, sym, ap, ◌∙◌}
use lib.Dec.{T}
use native.Mathlib.Omega.{arith}
use Rattle.loops.proofs.Tests.{T_true}
use Rattle.refusals.specs.declared.Refusal.{Refusal}
use Rattle.refusals.specs.declared.Refusal.TheVariants.{Misshapen}
use Rattle.round.specs.declared.Round.{Round}
use Rattle.round.specs.Shape.{shaped}
use Rattle.round.specs.Ask.{told, tested}

-- a round that passes keeps the shape rules
pub passes : (r : Round) {u : ⊤} → Ok u ≡ tested r → shaped r ≡ true
unfolding tested
passes r {u} e = go (shaped r) e
  where
    go : (b : Bool) → ◌≡◌ {A = Result ⊤ Refusal} (Ok u) (cond b (Ok tt) (Err Misshapen)) → b ≡ true
    go true q = refl
    go false q = absurd (let z : ◌≡◌ {A = ℕ} 0 1 = cc in omega arith)

pub passed : (r : Round) {u : ⊤} → Ok u ≡ tested r → T (shaped r)
passed r e = T_true (passes r e)

pub tells : {A : Type 0} (r : Round) (x : A) {u : ⊤} → Ok u ≡ tested r → Ok x ≡ told r x
tells r x e = rw (passes r e)

-- one that does not pass is refused by each alike
pub fails : (r : Round) {e : Refusal} → Err e ≡ tested r → (shaped r ≡ false) × (e ≡ Misshapen)
unfolding tested
fails r {e} p = go (shaped r) refl p
  where
    go : (b : Bool) → shaped r ≡ b → ◌≡◌ {A = Result ⊤ Refusal} (Err e) (cond b (Ok tt) (Err Misshapen)) → (shaped r ≡ false) × (e ≡ Misshapen)
    go true s q = absurd (let z : ◌≡◌ {A = ℕ} 0 1 = cc in omega arith)
    go false s q = (s, cc)

pub refuses : {A B : Type 0} (f : Result A Refusal → B) (r : Round) (x : B) (y : Result A Refusal) {e : Refusal}
    → Err e ≡ tested r → IsErrAnd y (λ d. d ≡ e) → f y ≡ cond (shaped r) x (f (Err Misshapen))
refuses f r x y p q =
    let w = err_from_is_err_and y q in
    let s = fails r p in
    rw (s.0, w.1, w.2, s.1)
