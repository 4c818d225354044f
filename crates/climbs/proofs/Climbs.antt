-- The turns of the climbs.
use mathlib.Core.Path.{◌≡◌}
use Prim.Native.Nat.{ℕ, pred, ◌≤◌, ◌<◌}
use native.Mathlib.Omega.{arith}
use lib.Dec.{T, eqb, eqb→eq, eqb_refl}
use Rattle.loops.proofs.Tests.{same_test}
use Rattle.grandpa.specs.Tree.{below}
use Rattle.grandpa.proofs.Trees.{below_refl, below_up, below_trans, below_le, below_step}

module _ (up : ℕ → ℕ) (falls : (k : ℕ) → up k ≤ pred k) (b at : ℕ) where
  pub reach_next : b < at → below up b at ≡ below up b (up at)
  reach_next h =
      same_test (below up b at) (below up b (up at)) (λ t. below_step up falls b at t (λ e. omega arith))
      (λ t. below_trans up falls b (up at) at t (below_up up falls at))

  pub reach_end : at ≤ b → eqb at b ≡ below up b at
  reach_end h =
      same_test (eqb at b) (below up b at)
      (λ t. rw (eqb→eq at b t) (below_refl up falls b))
      (λ t. here (omega (arith, below_le up falls b at t)))
    where
      here : at ≡ b → T (eqb at b)
      here e = rw e (eqb_refl b)
