-- Worked examples: four voters of weight 1, 2, 3 and 4; prevotes of places 0 and 2, a precommit of place 1, place 3 equivocating
-- in the prevotes.
use mathlib.Core.Bool.{true, false, ◌||◌}
use mathlib.Core.List.{List, [], ◌∷◌}
use mathlib.Core.Path.{◌≡◌, refl}
use Prim.Native.Nat.{ℕ, ◌^◌}
use Rattle.loops.specs.Sum.{sum}
use Rattle.bitfield.specs.Bits.{in_word, has, put}
use Rattle.layouts.specs.Layout.{RUN, index}
use Rattle.layouts.specs.Layout as layout
use Rattle.context.specs.declared.Phase.TheVariants.{Prevote, Precommit}
use Rattle.context.specs.Votes.{bit, voted, weight_of, voters_heard_in}

weights : List ℕ
weights = 1 ∷ 2 ∷ 3 ∷ 4 ∷ []

node : List ℕ
node = put (put (put (0 ∷ 0 ∷ []) (bit Prevote 0)) (bit Prevote 2)) (bit Precommit 1)

equivocators : List ℕ
equivocators = put (0 ∷ 0 ∷ []) (bit Prevote 3)

votes : (voted node Prevote 2 ≡ true) × (voted node Precommit 2 ≡ false) × (voted node Precommit 1 ≡ true) × (voted node Prevote 1 ≡ false)
unfolding voted has in_word put node bit index layout.bit RUN
votes = (refl, refl, refl, refl)

-- a voter who voted and equivocated counts once; saturation at the largest weight
weighed : (weight_of weights (voted node Prevote) ≡ 4)
    × (weight_of weights (voted node Precommit) ≡ 2)
    × (weight_of weights (λ p. voted node Prevote p || voted equivocators Prevote p) ≡ 8)
    × (weight_of weights (λ p. voted node Prevote p || voted node Prevote p) ≡ 4)
    × (weight_of (2 ^ 63 ∷ 0 ∷ 2 ^ 63 ∷ []) (voted node Prevote) ≡ 18446744073709551615)
unfolding weight_of sum voted has in_word put weights node equivocators bit index layout.bit RUN
weighed = (refl, refl, refl, refl, refl)

counted : (voters_heard_in node Prevote ≡ 2) × (voters_heard_in node Precommit ≡ 1)
unfolding voters_heard_in sum voted has in_word put node bit index layout.bit RUN
counted = (refl, refl)
