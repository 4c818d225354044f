-- Words that are all 0, as the code asks it.
use mathlib.Core.Bool.{Bool, true, false, ◌&&◌}
use mathlib.Core.List.{List, [], ◌∷◌}
use mathlib.Core.Path.{◌≡◌, refl, ap, ◌∙◌}
use Prim.Native.Nat.{ℕ, zero, suc}
use lib.Dec.{eqb}
use lib.ListN.{length, get_or}
use Rattle.std.specs.List.{list_all}
use Rattle.loops.specs.All.{all}
use Rattle.loops.proofs.Alls.{all_none}
use Rattle.bitfield.specs.Bits.{blank}

swap : (a b c : Bool) → (a && (b && c)) ≡ (b && (a && c))
swap true b c = refl
swap false true c = refl
swap false false c = refl

all_first : (n : ℕ) (p : ℕ → Bool) → all (suc n) p ≡ (p 0 && all n (λ i. p (suc i)))
unfolding all
all_first zero p = refl
all_first (suc n) p = rw (all_first n p) (swap (p (suc n)) (p 0) (all n (λ i. p (suc i))))

pub blank_every : (ws : List ℕ) → blank ws ≡ list_all (λ w. eqb w 0) ws
unfolding blank
blank_every [] = all_none (λ i. eqb (get_or [] i 0) 0)
blank_every (w ∷ ws) = all_first (length ws) _ ∙ ap (λ (b : Bool). eqb w 0 && b) (blank_every ws)
