-- Records that are not of the first turn.
use mathlib.Core.Logic.{◌⊎◌, inl, inr}
use mathlib.Core.List.{List}
use mathlib.Core.Path.{◌≡◌}
use Prim.Native.Nat.{ℕ}
use Rattle.marks.specs.declared.Mark.{Mark}
use Rattle.marks.specs.declared.Mark.TheVariants.{Bk, Op, Pv, Pc}
use Rattle.runs.specs.Run.{stops}
use Rattle.refusals.specs.declared.Refusal.TheVariants.{OutOfTurn}
use Rattle.pairing.specs.declared.Pairs.{Pairs}
use Rattle.pairing.specs.Pairing.{paired}

pub paired_others : (p : Pairs) (m : Mark) (fs : List ℕ) → (m ≡ Bk) ⊎ ((m ≡ Op) ⊎ ((m ≡ Pv) ⊎ (m ≡ Pc))) → paired p m fs ≡ stops OutOfTurn
unfolding paired
paired_others p m fs (inl e) = rw e
paired_others p m fs (inr (inl e)) = rw e
paired_others p m fs (inr (inr (inl e))) = rw e
paired_others p m fs (inr (inr (inr e))) = rw e
