-- Document 01, case J: voter 1's precommit for block 12 of number 2, signature 0. And a prevote whose fields show the order.
use mathlib.Core.List.{[], ◌∷◌}
use mathlib.Core.Path.{◌≡◌, refl}
use Rattle.context.specs.declared.Phase.TheVariants.{Prevote, Precommit}
use Rattle.records.specs.Bytes.{vote_bytes}

pub case_j : vote_bytes Precommit 1 (record { target = 12; number = 2; signature = 0 })
    ≡ 80 ∷ 99 ∷ 1 ∷ 0 ∷ 0 ∷ 0 ∷ 12 ∷ 0 ∷ 0 ∷ 0 ∷ 2 ∷ 0 ∷ 0 ∷ 0 ∷ 0 ∷ 0 ∷ 0 ∷ 0 ∷ 0 ∷ 0 ∷ 0 ∷ 0 ∷ []
unfolding vote_bytes
case_j = refl

-- voter 0x04030201, target 0x08070605, number 0x0c0b0a09, signature 0x14131211100f0e0d
pub in_order : vote_bytes Prevote 67305985 (record { target = 134678021; number = 202050057; signature = 1446519769809227277 })
    ≡ 80 ∷ 118 ∷ 1 ∷ 2 ∷ 3 ∷ 4 ∷ 5 ∷ 6 ∷ 7 ∷ 8 ∷ 9 ∷ 10 ∷ 11 ∷ 12 ∷ 13 ∷ 14 ∷ 15 ∷ 16 ∷ 17 ∷ 18 ∷ 19 ∷ 20 ∷ []
unfolding vote_bytes
in_order = refl
