-- Weights of recorded votes. Each law is a fact about one vote, by cases, lifted to a sum over the voters.
use mathlib.Core.Bool.{Bool, true, false, cond, not, ◌&&◌, ◌||◌}
use mathlib.Core.Path.{◌≡◌, refl, sym, ap, subst, ◌∙◌}
use Prim.Native.Nat.{ℕ, pred, ◌+◌, ◌-◌, ◌*◌, ◌/◌, ◌≤◌, ◌<◌, min}
use native.Mathlib.Omega.{arith}
use lib.Dec.{T, leb, leb→le, le→leb, T_not, not_T}
use Rattle.loops.specs.Sum.{sum, weigh}
use Rattle.loops.specs.All.{any}
use Rattle.loops.proofs.Tests.{same_test, true_T}
use Rattle.loops.proofs.Alls.{any_at, any_intro}
use Rattle.loops.proofs.Sums.{sum_add, sum_cong, weigh_cong, weigh_mono, weigh_le, weigh_both, weigh_not, weigh_every}
use Rattle.grandpa.specs.Weight.{fault, threshold}
use Rattle.grandpa.specs.Tree.{Blocks, Tabled, below, child}
use Rattle.grandpa.specs.Vote.{Vote, silent, once, twice, Voters, total, spoke, equivocated, backs, lands, heard, unheard, equivocators, phase_weight, weighty, noded}
use Rattle.grandpa.specs.Possible.{possible, possible_at}
use Rattle.grandpa.specs.Time.{Later, any_yet, the_same, a_second, no_third, VotesLater, Placed, VotesPlaced}
use Rattle.grandpa.proofs.Trees.{below_trans, below_le, below_same, child_below}

-- heard and unheard weight sum to the total
pub heard_unheard : (vs : Voters) (v : ℕ → Vote) → heard vs v + unheard vs v ≡ total vs
heard_unheard vs v = weigh_not vs.size vs.weight (λ i. spoke (v i))

pub heard_le : (vs : Voters) (v : ℕ → Vote) → heard vs v ≤ total vs
heard_le vs v = weigh_le vs.size vs.weight (λ i. spoke (v i))

-- two sets of voters of weight T each share more than F: inclusion and exclusion
pub overlap : (vs : Voters) (s t : ℕ → Bool) → 0 < total vs
    → threshold (total vs) ≤ weigh vs.size s vs.weight
    → threshold (total vs) ≤ weigh vs.size t vs.weight
    → fault (total vs) < weigh vs.size (λ i. s i && t i) vs.weight
overlap vs s t some h k =
    omega (arith, weigh_both vs.size vs.weight s t, weigh_le vs.size vs.weight (λ i. s i || t i))

-- a fact about one vote, lifted
lifted : (vs : Voters) (v : ℕ → Vote) (f g : Vote → Bool) → ((x : Vote) → T (f x) → T (g x))
    → weigh vs.size (λ i. f (v i)) vs.weight ≤ weigh vs.size (λ i. g (v i)) vs.weight
lifted vs v f g h = weigh_mono vs.size vs.weight (λ i. f (v i)) (λ i. g (v i)) (λ i l. h (v i))

-- a test that no silent voter passes and every equivocator does is passed by more voters later
grows : (vs : Voters) (v w : ℕ → Vote) (f : Vote → Bool) → (T (f silent) → ⊥) → ((s : ℕ) → T (f (twice s)))
    → VotesLater vs v w → weigh vs.size (λ i. f (v i)) vs.weight ≤ weigh vs.size (λ i. f (w i)) vs.weight
grows vs v w f quiet double later = weigh_mono vs.size vs.weight (λ i. f (v i)) (λ i. f (w i)) (λ i l. one (v i) (w i) (later i l))
  where
    one : (x y : Vote) → Later x y → T (f x) → T (f y)
    one _ _ (any_yet y) t = absurd (quiet t)
    one _ _ (the_same s) t = t
    one _ _ (a_second s) t = double s
    one _ _ (no_third s) t = t

backs_spoke : (up : ℕ → ℕ) (b : ℕ) (x : Vote) → T (backs up b x) → T (spoke x)
backs_spoke up b silent t = t
backs_spoke up b (once s) t = tt
backs_spoke up b (twice s) t = tt

equivocated_backs : (up : ℕ → ℕ) (b : ℕ) (x : Vote) → T (equivocated x) → T (backs up b x)
equivocated_backs up b silent t = t
equivocated_backs up b (once s) t = absurd t
equivocated_backs up b (twice s) t = tt

-- not backed by one who spoke: equivocated, or the one vote is not at or below b
abbrev pub against : (ℕ → ℕ) → ℕ → Vote → Bool
against up b silent = false
against up b (once s) = not (below up b s)
against up b (twice s) = true

-- the weight that stands against b, equivocators included: with the weight for b it makes heard and equivocators
abbrev pub opposed : Voters → (ℕ → ℕ) → (ℕ → Vote) → ℕ → ℕ
opposed vs up v b = weigh vs.size (λ i. against up b (v i)) vs.weight

pub weight_opposed : (vs : Voters) (up : ℕ → ℕ) (v : ℕ → Vote) (b : ℕ)
    → phase_weight vs up v b + opposed vs up v b ≡ heard vs v + equivocators vs v
weight_opposed vs up v b = sym (sum_add n _ _) ∙ sum_cong n _ _ (λ i h. parts (v i) (vs.weight i)) ∙ sum_add n _ _
  where
    n : ℕ
    n = vs.size

    one : (z : Bool) (x : ℕ) → cond z x 0 + cond (not z) x 0 ≡ x + 0
    one true x = refl
    one false x = omega arith

    parts : (y : Vote) (x : ℕ)
        → cond (backs up b y) x 0 + cond (against up b y) x 0 ≡ cond (spoke y) x 0 + cond (equivocated y) x 0
    parts silent x = refl
    parts (once s) x = one (below up b s) x
    parts (twice s) x = refl

-- the base has weight C
pub base_weight : (vs : Voters) (t : Blocks) (base : ℕ) (v : ℕ → Vote) → VotesPlaced vs t base v
    → phase_weight vs t.up v base ≡ heard vs v
base_weight vs t base v placed = weigh_cong vs.size vs.weight _ _ (λ i h. whole (v i) (placed i h))
  where
    whole : (x : Vote) → Placed t base x → backs t.up base x ≡ spoke x
    whole silent p = refl
    whole (once s) p = true_T (below t.up base s) p.1
    whole (twice s) p = refl

module _ (vs : Voters) (up : ℕ → ℕ) (v : ℕ → Vote) where
  pub weight_heard : (b : ℕ) → phase_weight vs up v b ≤ heard vs v
  weight_heard b = lifted vs v (backs up b) spoke (backs_spoke up b)

  pub equivocators_weight : (b : ℕ) → equivocators vs v ≤ phase_weight vs up v b
  equivocators_weight b = lifted vs v equivocated (backs up b) (equivocated_backs up b)

  -- the sums in possible never pass the total
  pub possible_fits : (b : ℕ)
      → phase_weight vs up v b + (total vs - heard vs v) + min (heard vs v - phase_weight vs up v b) (fault (total vs) - equivocators vs v) ≤ total vs
  possible_fits b = omega (arith, weight_heard b, heard_le vs v)

  -- a block with no vote-node at or below it has the equivocators' weight and no more
  pub bare_weight : (b : ℕ) → ((i : ℕ) → i < vs.size → T (lands up b (v i)) → ⊥) → phase_weight vs up v b ≡ equivocators vs v
  bare_weight b none = weigh_cong vs.size vs.weight _ _ (λ i h. only (v i) (none i h))
    where
      only : (x : Vote) → (T (lands up b x) → ⊥) → backs up b x ≡ equivocated x
      only silent f = refl
      only (once s) f = same_test (below up b s) false f (λ t. absurd t)
      only (twice s) f = refl

  module _ (falls : (k : ℕ) → up k ≤ pred k) where
    -- weight never falls towards the root
    pub weight_up : (a b : ℕ) → T (below up a b) → phase_weight vs up v b ≤ phase_weight vs up v a
    weight_up a b h = lifted vs v (backs up b) (backs up a) rise
      where
        rise : (x : Vote) → T (backs up b x) → T (backs up a x)
        rise silent t = t
        rise (once s) t = below_trans up falls a b s h t
        rise (twice s) t = tt

    -- possible grows with weight, so it holds of every block above one where it holds
    pub possible_up : (a b : ℕ) → T (below up a b) → T (possible_at vs up v b) → T (possible_at vs up v a)
    possible_up a b h p =
        omega (
          arith,
          leb→le,
          le→leb,
          room (phase_weight vs up v b) (phase_weight vs up v a) (heard vs v) (fault (total vs) - equivocators vs v) (weight_up a b h) (weight_heard a),
        )
      where
        room : (w u c m : ℕ) → w ≤ u → u ≤ c → w + min (c - w) m ≤ u + min (c - u) m
        room w u c m h k = omega arith

-- possible, in one number: what stands against b is at most twice F, while equivocators are at most F
module _ (vs : Voters) (up : ℕ → ℕ) (v : ℕ → Vote) (few : equivocators vs v ≤ fault (total vs)) where
  pub possible_opposed : (b : ℕ) → T (possible_at vs up v b) → opposed vs up v b ≤ 2 * fault (total vs)
  possible_opposed b p =
      bound (total vs) (heard vs v) (equivocators vs v) (phase_weight vs up v b) (opposed vs up v b)
      (weight_heard vs up v b) (heard_le vs v) few (weight_opposed vs up v b) (leb→le _ _ p)
    where
      bound : (n c e w o : ℕ) → w ≤ c → c ≤ n → e ≤ fault n → w + o ≡ c + e
          → threshold n ≤ w + (n - c) + min (c - w) (fault n - e) → o ≤ 2 * fault n
      bound n c e w o h1 h2 h3 h4 h5 = omega arith

  pub opposed_possible : (b : ℕ) → opposed vs up v b ≤ 2 * fault (total vs) → T (possible_at vs up v b)
  opposed_possible b p =
      le→leb _ _
      (bound (total vs) (heard vs v) (equivocators vs v) (phase_weight vs up v b) (opposed vs up v b)
      (weight_heard vs up v b) (heard_le vs v) few (weight_opposed vs up v b) p)
    where
      bound : (n c e w o : ℕ) → w ≤ c → c ≤ n → e ≤ fault n → w + o ≡ c + e → o ≤ 2 * fault n
          → threshold n ≤ w + (n - c) + min (c - w) (fault n - e)
      bound n c e w o h1 h2 h3 h4 h5 = omega arith

  -- a block with no vote-node at or below it is not possible, once heard weight reaches T
  pub bare_impossible : (b : ℕ) → 0 < total vs → threshold (total vs) ≤ heard vs v
      → ((i : ℕ) → i < vs.size → T (lands up b (v i)) → ⊥) → T (possible_at vs up v b) → ⊥
  bare_impossible b some reached none p =
      omega (arith, possible_opposed b p, bare_weight vs up v b none, weight_opposed vs up v b)

-- over time
module _ (vs : Voters) (v w : ℕ → Vote) (later : VotesLater vs v w) where
  pub heard_grows : heard vs v ≤ heard vs w
  heard_grows = grows vs v w spoke (λ t. t) (λ s. tt) later

  pub equivocators_grow : equivocators vs v ≤ equivocators vs w
  equivocators_grow = grows vs v w equivocated (λ t. t) (λ s. tt) later

  module _ (up : ℕ → ℕ) (b : ℕ) where
    -- a vote never lowers a phase weight
    pub weight_grows : phase_weight vs up v b ≤ phase_weight vs up w b
    weight_grows = grows vs v w (backs up b) (λ t. t) (λ s. tt) later

    pub weighty_stays : T (weighty vs up v b) → T (weighty vs up w b)
    weighty_stays t = omega (arith, leb→le, le→leb, weight_grows)

    pub opposed_grows : opposed vs up v b ≤ opposed vs up w b
    opposed_grows = grows vs v w (against up b) (λ t. t) (λ s. tt) later

    -- while equivocators are at most F, possible only shrinks
    pub possible_shrinks : equivocators vs w ≤ fault (total vs) → T (possible_at vs up w b) → T (possible_at vs up v b)
    possible_shrinks few p =
        opposed_possible vs up v (omega (arith, equivocators_grow)) b
        (omega (arith, opposed_grows, possible_opposed vs up w few b p))
