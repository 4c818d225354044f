-- Document 01, "Numbers to hold it to": the two lines marked P, as a single fact.
use mathlib.Core.List.{List, [], ◌∷◌, map}
use mathlib.Core.Path.{◌≡◌, refl}
use Prim.Native.Nat.{ℕ, ◌^◌}
use Rattle.grandpa.specs.Weight.{threshold}
use Rattle.bitfield.specs.Bits.{put}
use Rattle.layouts.specs.Layout.{RUN, index}
use Rattle.layouts.specs.Layout as layout
use Rattle.context.specs.declared.Phase.{Phase}
use Rattle.context.specs.declared.Phase.TheVariants.{Prevote, Precommit}
use Rattle.context.specs.Votes.{bit}

-- two words with the one vote of a phase and a place
abbrev pub alone : Phase → ℕ → List ℕ
alone phase place = put (0 ∷ 0 ∷ []) (bit phase place)

pub table : (map threshold (1 ∷ 2 ∷ 3 ∷ 4 ∷ 5 ∷ 6 ∷ 7 ∷ 10 ∷ []) ≡ 1 ∷ 2 ∷ 3 ∷ 3 ∷ 4 ∷ 5 ∷ 5 ∷ 7 ∷ [])
    × (alone Prevote 0 ≡ 2 ^ 63 ∷ 0 ∷ [])
    × (alone Prevote 32 ≡ 0 ∷ 2 ^ 63 ∷ [])
    × (alone Precommit 63 ≡ 0 ∷ 1 ∷ [])
unfolding put bit index layout.bit RUN
table = (refl, refl, refl, refl)
