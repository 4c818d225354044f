-- Document 02, R-3: two blocks of precommit weight T or more, one in each of two views, neither of which is at or below the other, and
-- the two-view sum exceeds the fault weight. Nothing is supposed of equivocators. With both views equal it says that blocks of weight
-- T or more lie on one line. And worked cases.
use mathlib.Core.Bool.{false, ◌&&◌}
use mathlib.Core.List.{List, [], ◌∷◌}
use mathlib.Core.Path.{◌≡◌, refl, subst, sym}
use mathlib.Core.Logic.{◌⊎◌, inl, inr}
use Prim.Native.Nat.{ℕ, pred, ◌≤◌, ◌<◌}
use native.Mathlib.Omega.{arith}
use lib.Dec.{T, eqb, eqb→eq, not_T}
use lib.ListN.{get_or, length}
use Rattle.loops.specs.All.{all, any}
use Rattle.loops.specs.Sum.{sum, weigh}
use Rattle.loops.proofs.Sums.{weigh_mono}
use Rattle.loops.proofs.Tests.{dec_T, left_of, right_of}
use Rattle.grandpa.specs.Weight.{fault, threshold}
use Rattle.grandpa.specs.Tree.{Blocks, within, below}
use Rattle.grandpa.specs.Vote.{Vote, silent, once, twice, Voters, total, equivocators, backs, phase_weight}
use Rattle.grandpa.specs.Answers.{told_from, told, ghost_of, highest_of, first_of, search_up, finalized_of, estimate_of, completable_of}
use Rattle.grandpa.specs.Views.{differ, targets_differ, two_views}
use Rattle.grandpa.proofs.Trees.{below_line}
use Rattle.grandpa.proofs.Votes.{overlap}
use Rattle.grandpa.proofs.Views.{two_views_self}
use Rattle.std.specs.Prelude.{Option, Some}

module _ (vs : Voters) (up : ℕ → ℕ) (falls : (k : ℕ) → up k ≤ pred k) (some_weight : 0 < total vs) where
  module _ (v w : ℕ → Vote) (a b : ℕ) (p : T (below up a b) → ⊥) (q : T (below up b a) → ⊥) where
    -- a block that is at or below both would put them on one line
    apart : (x : ℕ) → T (below up a x) → T (below up b x) → ⊥
    apart x h k = go (below_line up falls a b x h k)
      where
        go : T (below up a b) ⊎ T (below up b a) → ⊥
        go (inl l) = p l
        go (inr l) = q l

    -- who stands behind a in one view and behind b in the other
    maker : (x y : Vote) → T (backs up a x && backs up b y) → T (differ x y)
    maker silent y t = absurd t
    maker (once s) silent t = absurd (right_of (below up a s) false t)
    maker (once s) (once z) t =
        not_T (eqb s z) (λ e. apart s (left_of (below up a s) (below up b z) t)
        (subst (λ (k : ℕ). T (below up b k)) (sym (eqb→eq s z e)) (right_of (below up a s) (below up b z) t)))
    maker (once s) (twice z) t = tt
    maker (twice s) y t = tt

    pub makers : threshold (total vs) ≤ phase_weight vs up v a → threshold (total vs) ≤ phase_weight vs up w b → fault (total vs) < two_views vs v w
    makers h k =
        omega (
          arith,
          overlap vs (λ i. backs up a (v i)) (λ i. backs up b (w i)) some_weight h k,
          weigh_mono vs.size vs.weight (λ i. backs up a (v i) && backs up b (w i)) (λ i. differ (v i) (w i)) (λ i l. maker (v i) (w i)),
        )

  -- two blocks of weight T or more, with equivocators at most F, lie on one line
  pub one_line : (v : ℕ → Vote) (a b : ℕ) → equivocators vs v ≤ fault (total vs)
      → threshold (total vs) ≤ phase_weight vs up v a → threshold (total vs) ≤ phase_weight vs up v b
      → T (below up a b) ⊎ T (below up b a)
  one_line v a b few h k = go (dec_T (below up a b)) (dec_T (below up b a))
    where
      go : Dec (T (below up a b)) → Dec (T (below up b a)) → T (below up a b) ⊎ T (below up b a)
      go (yes p) d = inl p
      go (no p) (yes q) = inr q
      go (no p) (no q) = absurd (omega (arith, makers v v a b p q h k, two_views_self vs v))

-- Four voters of weight 1, so that F is 1 and T is 3.
abbrev four : Voters
four = record { size = 4; weight = λ i. 1 }

abbrev tree : List ℕ → List ℕ → Blocks
tree parents numbers = record { count = length parents; up = λ k. get_or parents k 0; number = λ k. get_or numbers k 0 }

abbrev votes : List Vote → ℕ → Vote
votes l i = get_or l i silent

-- the final block that is told of prevotes and precommits
abbrev final : Blocks → List Vote → List Vote → Option ℕ
final t pv pc = (told four t 0 (votes pv) (votes pc)).finalized

-- document 01's sum, of first targets alone
abbrev first_targets : Voters → (ℕ → Vote) → (ℕ → Vote) → ℕ
first_targets vs v w = weigh vs.size (λ i. targets_differ (v i) (w i)) vs.weight

-- 10, and 11 and 12 under it, at places 0, 1 and 2. Voters 1 to 3 stand behind 11 in one view, 2 to 4 behind 12 in the other; 2 and 3
-- equivocated, and their first targets are the same in both views
abbrev fork : Blocks
fork = tree (0 ∷ 0 ∷ 0 ∷ []) (0 ∷ 1 ∷ 1 ∷ [])

abbrev one_side : List Vote
one_side = once 1 ∷ twice 1 ∷ twice 2 ∷ []

abbrev other_side : List Vote
other_side = silent ∷ twice 1 ∷ once 2 ∷ once 2 ∷ []

two_finals : final fork (once 1 ∷ once 1 ∷ once 1 ∷ []) one_side ∷ final fork (once 2 ∷ once 2 ∷ once 2 ∷ []) other_side ∷ []
    ≡ Some 1 ∷ Some 2 ∷ []
unfolding told told_from ghost_of highest_of first_of search_up finalized_of estimate_of completable_of below within sum all any
two_finals = refl

-- the sum is above F, and by first targets alone it is not
two_makers : fault (total four) ∷ two_views four (votes one_side) (votes other_side) ∷ first_targets four (votes one_side) (votes other_side) ∷ []
    ≡ 1 ∷ 2 ∷ 0 ∷ []
unfolding sum
two_makers = refl

-- 10, 11 under it and 12 under 11: voters 1 to 3 precommit for 12 in one view, 2 and 3 for 12 and 4 for 11 in the other. 12 is final in
-- one and 11 in the other, on one line, and nobody differs
abbrev line : Blocks
line = tree (0 ∷ 0 ∷ 1 ∷ []) (0 ∷ 1 ∷ 2 ∷ [])

one_line_finals : final line (once 2 ∷ once 2 ∷ once 2 ∷ []) (once 2 ∷ once 2 ∷ once 2 ∷ [])
    ∷ final line (once 2 ∷ once 2 ∷ once 2 ∷ []) (silent ∷ once 2 ∷ once 2 ∷ once 1 ∷ [])
    ∷ []
    ≡ Some 2 ∷ Some 1 ∷ []
unfolding told told_from ghost_of highest_of first_of search_up finalized_of estimate_of completable_of below within sum all any
one_line_finals = refl

no_makers : two_views four (votes (once 2 ∷ once 2 ∷ once 2 ∷ [])) (votes (silent ∷ once 2 ∷ once 2 ∷ once 1 ∷ [])) ≡ 0
unfolding sum
no_makers = refl
