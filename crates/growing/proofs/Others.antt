-- Records that are not of the second turn.
use mathlib.Core.Logic.{◌⊎◌, inl, inr}
use mathlib.Core.List.{List}
use mathlib.Core.Path.{◌≡◌}
use Prim.Native.Nat.{ℕ}
use Rattle.marks.specs.declared.Mark.{Mark}
use Rattle.marks.specs.declared.Mark.TheVariants.{Vt, Rt, Pv, Pc}
use Rattle.runs.specs.Run.{stops}
use Rattle.refusals.specs.declared.Refusal.TheVariants.{OutOfTurn}
use Rattle.blocks.specs.declared.BlockTable.{BlockTable}
use Rattle.growing.specs.Growing.{grown}

pub grown_others : (t : BlockTable) (m : Mark) (fs : List ℕ) → (m ≡ Vt) ⊎ ((m ≡ Rt) ⊎ ((m ≡ Pv) ⊎ (m ≡ Pc))) → grown t m fs ≡ stops OutOfTurn
unfolding grown
grown_others t m fs (inl e) = rw e
grown_others t m fs (inr (inl e)) = rw e
grown_others t m fs (inr (inr (inl e))) = rw e
grown_others t m fs (inr (inr (inr e))) = rw e
