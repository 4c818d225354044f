-- What it says of a table that it has a number of used places, or that it is refused.
use mathlib.Core.Bool.{Bool, true, false, cond}
use mathlib.Core.Path.{◌≡◌, refl}
use Prim.Native.Nat.{ℕ}
use native.Mathlib.Omega.{arith}
use Rattle.blocks.specs.declared.BlockTable.{BlockTable}
use Rattle.block_shape.specs.Shape.{tabled}
use Rattle.block_table.specs.Ask.{used}
use Rattle.std.specs.Bool.{then_some}
use Rattle.std.specs.Prelude.{Some, None, Result, Ok, Err}
use Rattle.refusals.specs.declared.Refusal.{Refusal}
use Rattle.refusals.specs.declared.Refusal.TheVariants.{Misshapen}

module _ (t : BlockTable) where
  pub used_ok : {n : ℕ} → used t ≡ Ok n → (tabled t ≡ true) × (n ≡ t.count)
  unfolding used
  used_ok {n} e = go (tabled t) refl e
    where
      go : (b : Bool) → tabled t ≡ b → ◌≡◌ {A = Result ℕ Refusal} (cond b (Ok t.count) (Err Misshapen)) (Ok n) → (tabled t ≡ true) × (n ≡ t.count)
      go true q r = (q, cc)
      go false q r = absurd (let z : ◌≡◌ {A = ℕ} 0 1 = cc in omega arith)

  pub used_err : {e : Refusal} → used t ≡ Err e → (tabled t ≡ false) × (e ≡ Misshapen)
  unfolding used
  used_err {e} h = go (tabled t) refl h
    where
      go : (b : Bool) → tabled t ≡ b → ◌≡◌ {A = Result ℕ Refusal} (cond b (Ok t.count) (Err Misshapen)) (Err e) → (tabled t ≡ false) × (e ≡ Misshapen)
      go true q r = absurd (let z : ◌≡◌ {A = ℕ} 0 1 = cc in omega arith)
      go false q r = (q, cc)

pub some_where : {A : Type 0} (b : Bool) (x : A) → then_some b x ≡ cond b (Some x) None
some_where true x = refl
some_where false x = refl
