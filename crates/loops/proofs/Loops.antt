-- A loop's invariant says that the whole answer is the answer of what is left to run; these are its turns.
use mathlib.Core.Bool.{Bool, true, false}
use mathlib.Core.Path.{◌≡◌, refl}
use Prim.Native.Nat.{ℕ, zero, suc, ◌+◌, ◌-◌, ◌≤◌, ◌<◌}
use native.Mathlib.Numerals.{add-one}
use native.Mathlib.Nat.{zero-add}
use native.Mathlib.Omega.{arith}
use Rattle.loops.specs.Loop.{run, first}

module _ {A : Type 0} (s : ℕ → A → A) where
  pub run_next : (n k : ℕ) (v : A) → k < n → {u : A} → s k v ≡ u → run s (n - k) k v ≡ run s (n - (k + 1)) (k + 1) u
  unfolding run
  run_next n k v h e =
      let d : n - k ≡ suc (n - (k + 1)) = omega arith in
      rw (d, ← e, add-one)

  pub run_end : (n k : ℕ) (v : A) → n ≤ k → run s (n - k) k v ≡ v
  unfolding run
  run_end n k v h =
      let d : n - k ≡ 0 = omega arith in
      rw d

  -- what every turn keeps, the loop keeps
  pub run_keeps : (P : A → Type 0) → ((k : ℕ) (v : A) → P v → P (s k v)) → (f k : ℕ) (v : A) → P v → P (run s f k v)
  unfolding run
  run_keeps P step zero k v h = h
  run_keeps P step (suc f) k v h = run_keeps P step f (suc k) (s k v) (step k v h)

module _ {A : Type 0} (p : ℕ → Bool) (hit : ℕ → A) (miss : A) where
  pub first_hit : (n k : ℕ) → k < n → p k ≡ true → first p hit miss (n - k) k ≡ hit k
  unfolding first
  first_hit n k h e =
      let d : n - k ≡ suc (n - (k + 1)) = omega arith in
      rw (d, e)

  pub first_next : (n k : ℕ) → k < n → p k ≡ false → first p hit miss (n - k) k ≡ first p hit miss (n - (k + 1)) (k + 1)
  unfolding first
  first_next n k h e =
      let d : n - k ≡ suc (n - (k + 1)) = omega arith in
      rw (d, e, add-one)

  pub first_end : (n k : ℕ) → n ≤ k → first p hit miss (n - k) k ≡ miss
  unfolding first
  first_end n k h =
      let d : n - k ≡ 0 = omega arith in
      rw d
