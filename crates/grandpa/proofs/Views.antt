-- Laws of the two-view sum: either order gives the same; a view and itself give its equivocators; the equivocators of either view are in it,
-- and it is at most the total; votes to come never lower it. And document 02's rule on small views.
use mathlib.Core.Bool.{Bool, true, false, not, ◌||◌}
use mathlib.Core.List.{List, [], ◌∷◌}
use mathlib.Core.Path.{◌≡◌, refl, ap, ◌∙◌}
use Prim.Native.Nat.{ℕ, ◌≤◌}
use native.Mathlib.Omega.{arith}
use lib.Dec.{T, eqb, eqb→eq, eqb_refl, T_not}
use lib.ListN.{get_or}
use Rattle.loops.specs.Sum.{sum}
use Rattle.loops.proofs.Sums.{weigh_cong, weigh_mono, weigh_le}
use Rattle.loops.proofs.Tests.{same_test}
use Rattle.grandpa.specs.Vote.{Vote, silent, once, twice, Voters, total, equivocated, equivocators}
use Rattle.grandpa.specs.Views.{differ, differ_from, targets_differ, two_views}
use Rattle.grandpa.specs.Time.{Later, any_yet, the_same, a_second, no_third, VotesLater}

pub two_views_self : (vs : Voters) (v : ℕ → Vote) → two_views vs v v ≡ equivocators vs v
two_views_self vs v = weigh_cong vs.size vs.weight (λ i. differ (v i) (v i)) (λ i. equivocated (v i)) (λ i h. one (v i))
  where
    one : (x : Vote) → differ x x ≡ equivocated x
    one silent = refl
    one (once s) = same_test (not (eqb s s)) false (λ t. T_not (eqb s s) t (eqb_refl s)) (λ t. absurd t)
    one (twice s) = refl

pub two_views_swap : (vs : Voters) (v w : ℕ → Vote) → two_views vs v w ≡ two_views vs w v
two_views_swap vs v w = weigh_cong vs.size vs.weight (λ i. differ (v i) (w i)) (λ i. differ (w i) (v i)) (λ i h. one (v i) (w i))
  where
    swap : (a b : ℕ) → not (eqb a b) ≡ not (eqb b a)
    swap a b = ap not (same_test (eqb a b) (eqb b a) (λ t. flip a b (eqb→eq a b t)) (λ t. flip b a (eqb→eq b a t)))
      where
        flip : (x y : ℕ) → x ≡ y → T (eqb y x)
        flip x y e = rw e (eqb_refl y)

    one : (x y : Vote) → differ x y ≡ differ y x
    one silent silent = refl
    one silent (once b) = refl
    one silent (twice b) = refl
    one (once a) silent = refl
    one (once a) (once b) = swap a b
    one (once a) (twice b) = refl
    one (twice a) silent = refl
    one (twice a) (once b) = refl
    one (twice a) (twice b) = refl

-- the equivocators of a view are in the sum
pub two_views_equivocators : (vs : Voters) (v w : ℕ → Vote) → equivocators vs v ≤ two_views vs v w
two_views_equivocators vs v w = weigh_mono vs.size vs.weight (λ i. equivocated (v i)) (λ i. differ (v i) (w i)) (λ i h. one (v i) (w i))
  where
    one : (x y : Vote) → T (equivocated x) → T (differ x y)
    one silent y t = absurd t
    one (once a) y t = absurd t
    one (twice a) y t = tt

pub two_views_others : (vs : Voters) (v w : ℕ → Vote) → equivocators vs w ≤ two_views vs v w
two_views_others vs v w = omega (arith, two_views_equivocators vs w v, two_views_swap vs v w)

pub two_views_le : (vs : Voters) (v w : ℕ → Vote) → two_views vs v w ≤ total vs
two_views_le vs v w = weigh_le vs.size vs.weight (λ i. differ (v i) (w i))

-- votes that come to the first view
differ_later : (x y z : Vote) → Later x y → T (differ x z) → T (differ y z)
differ_later _ silent z (any_yet _) t = t
differ_later _ (once a) silent (any_yet _) t = absurd t
differ_later _ (once a) (once b) (any_yet _) t = absurd t
differ_later _ (once a) (twice b) (any_yet _) t = tt
differ_later _ (twice a) z (any_yet _) t = tt
differ_later _ _ z (the_same a) t = t
differ_later _ _ z (a_second a) t = tt
differ_later _ _ z (no_third a) t = tt

two_views_later : (vs : Voters) (v v' w : ℕ → Vote) → VotesLater vs v v' → two_views vs v w ≤ two_views vs v' w
two_views_later vs v v' w later =
    weigh_mono vs.size vs.weight (λ i. differ (v i) (w i)) (λ i. differ (v' i) (w i)) (λ i h. differ_later (v i) (v' i) (w i) (later i h))

-- and to either
pub two_views_grows : (vs : Voters) (v v' w w' : ℕ → Vote) → VotesLater vs v v' → VotesLater vs w w' → two_views vs v w ≤ two_views vs v' w'
two_views_grows vs v v' w w' l m =
    omega (
      arith,
      two_views_later vs v v' w l,
      two_views_swap vs v' w,
      two_views_later vs w w' v' m,
      two_views_swap vs w' v',
    )

-- weights 1, 2, 4, 8 and 16: the same target; another target; silent in one view; an equivocator beside the same first target; an
-- equivocator beside silence. By first targets alone only the second would count
abbrev five : Voters
five = record { size = 5; weight = λ i. get_or (1 ∷ 2 ∷ 4 ∷ 8 ∷ 16 ∷ []) i 0 }

abbrev votes : List Vote → ℕ → Vote
votes l i = get_or l i silent

abbrev one_view : ℕ → Vote
one_view = votes (once 1 ∷ once 1 ∷ once 2 ∷ twice 3 ∷ silent ∷ [])

abbrev other_view : ℕ → Vote
other_view = votes (once 1 ∷ once 2 ∷ silent ∷ once 3 ∷ twice 1 ∷ [])

five_kinds : two_views five one_view other_view ∷ two_views five other_view one_view ∷ two_views five one_view one_view
    ∷ two_views five (votes []) (votes [])
    ∷ []
    ≡ 26 ∷ 26 ∷ 8 ∷ 0 ∷ []
unfolding sum
five_kinds = refl
