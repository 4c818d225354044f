use mathlib.Core.Bool.{Bool}
use Prim.Native.Nat.{ℕ, ◌≤◌}
use Rattle.nodes.specs.Tests.{Tests}
use Rattle.nodes.proofs.Lists.{Laid}
use Rattle.nodes.proofs.keep.Given as goal

abbrev pub invariant-loop-place : goal.invariant-loop-place
invariant-loop-place g l =
    (l.n ≤ l.place-index)
    × ((p : ℕ → Bool) → Tests (goal.F-post g l.passes) p → Laid p l.places l.place-index l.kept l.n)
