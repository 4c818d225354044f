-- The four answers: each relation fixes its answer, each function computes what its relation fixes; where the answers lie.
use mathlib.Core.Bool.{Bool, true, false, cond, not, ◌&&◌, ◌||◌}
use mathlib.Core.Path.{◌≡◌, refl, sym, ap, subst, ◌∙◌}
use mathlib.Core.Logic.{◌≢◌, ◌⊎◌, inl, inr, ⊎_elim, ◌↔◌}
use Prim.Native.Nat.{ℕ, pred, ◌+◌, ◌≤◌, ◌<◌}
use native.Mathlib.Decide.{ℕ_discrete}
use native.Mathlib.Omega.{arith}
use lib.Dec.{T, leb, ltb, eqb, leb→le, le→leb, nleb→lt, ltb→lt, lt→ltb, eqb→eq, eqb_refl, T_not, not_T}
use Rattle.loops.specs.All.{all, any}
use Rattle.loops.proofs.Tests.{both, left_of, right_of, in_left, in_right, either, dec_T, by_test}
use Rattle.loops.proofs.Alls.{all_at, all_intro, any_at, any_intro}
use Rattle.grandpa.specs.Weight.{fault, threshold}
use Rattle.grandpa.specs.Tree.{Blocks, Tabled, below, child}
use Rattle.grandpa.specs.Vote.{Vote, silent, once, twice, Voters, total, heard, equivocators, phase_weight, lands, weighty, noded}
use Rattle.grandpa.specs.Possible.{possible_at}
use Rattle.grandpa.specs.Answers.{Says, Highest, highest_of, Ghost, ghost_of, First, first_of, Finalized, finalized_of, Estimate, estimate_of, Completable, every_child, with_node, settled_at, completable_of}
use Rattle.grandpa.specs.Time.{Placed, VotesPlaced}
use Rattle.grandpa.proofs.Trees.{below_refl, below_trans, below_le, below_antisym, child_below, child_towards, number_below, number_strictly}
use Rattle.grandpa.proofs.Votes.{base_weight, weight_up, bare_impossible, heard_le}
use Rattle.grandpa.proofs.Makers.{one_line}
use Rattle.grandpa.proofs.Searches.{first_down, first_unique, first_says, first_some, highest_says, highest_some}
use Rattle.std.specs.Prelude.{Option, Some, None}

-- Prevote-GHOST
pub ghost_says : (vs : Voters) (t : Blocks) (pv : ℕ → Vote) → Says (Ghost vs t pv) (ghost_of vs t pv)
unfolding ghost_of
ghost_says vs t pv =
    by_test (Says (Ghost vs t pv)) (leb (threshold (total vs)) (heard vs pv)) _ None
    (λ r. go (leb→le _ _ r) (highest_of t.number (weighty vs t.up pv) t.count) (highest_says t.number (weighty vs t.up pv) t.count))
    (λ r x p. omega (arith, nleb→lt, p.reached))
  where
    go : threshold (total vs) ≤ heard vs pv → (o : Option ℕ) → Says (Highest t.number (weighty vs t.up pv) t.count) o → Says (Ghost vs t pv) o
    go h None n = λ x p. n x p.highest
    go h (Some g) p = record { reached = h; highest = p }

-- there is a GHOST once some block of the table has weight T or more
pub ghost_some : (vs : Voters) (t : Blocks) (pv : ℕ → Vote) (b : ℕ) → threshold (total vs) ≤ heard vs pv
    → b < t.count → T (weighty vs t.up pv b) → (g : ℕ) × Ghost vs t pv g
ghost_some vs t pv b reached h w =
    let g = highest_some t.number (weighty vs t.up pv) t.count b h w in
    (g.0, record { reached = reached; highest = g.1 })

module _ (vs : Voters) (t : Blocks) (tabled : Tabled t) (some_weight : 0 < total vs) (pv : ℕ → Vote) (few : equivocators vs pv ≤ fault (total vs)) where
  -- of two blocks of weight T or more, the one numbered no lower is at or below the other
  lower : (a b : ℕ) → a < t.count → T (weighty vs t.up pv a) → T (weighty vs t.up pv b) → t.number a ≤ t.number b → T (below t.up a b)
  lower a b h p q n = go (one_line vs t.up tabled.falls some_weight pv a b few (leb→le _ _ p) (leb→le _ _ q)) (ℕ_discrete b a)
    where
      go : T (below t.up a b) ⊎ T (below t.up b a) → Dec (b ≡ a) → T (below t.up a b)
      go (inl l) d = l
      go (inr l) (yes e) = subst (λ (x : ℕ). T (below t.up a x)) (sym e) (below_refl t.up tabled.falls a)
      go (inr l) (no e) = absurd (omega (arith, number_strictly t tabled b a l h e))

  pub ghost_unique : (g h : ℕ) → Ghost vs t pv g → Ghost vs t pv h → g ≡ h
  ghost_unique g h p q =
      below_antisym t.up tabled.falls g h
      (lower g h p.highest.tabled p.highest.passes q.highest.passes (q.highest.highest g p.highest.tabled p.highest.passes))
      (lower h g q.highest.tabled q.highest.passes p.highest.passes (p.highest.highest h q.highest.tabled q.highest.passes))

  -- every block of weight T or more is the GHOST or above it
  pub ghost_under : (g b : ℕ) → Ghost vs t pv g → b < t.count → T (weighty vs t.up pv b) → T (below t.up b g)
  ghost_under g b p h w = lower b g h w p.highest.passes (p.highest.highest b h w)

  -- the GHOST lies at or below the base
  pub ghost_inside : (base g : ℕ) → Ghost vs t pv g → base < t.count → VotesPlaced vs t base pv → T (below t.up base g)
  ghost_inside base g p h placed =
      ghost_under g base p h (omega (arith, le→leb, base_weight vs t base pv placed, p.reached))

  -- a block of weight T or more with no such child is the GHOST
  pub ghost_found : (g : ℕ) → threshold (total vs) ≤ heard vs pv → g < t.count → T (weighty vs t.up pv g)
      → ((k : ℕ) → k < t.count → T (child t.up g k) → T (weighty vs t.up pv k) → ⊥) → Ghost vs t pv g
  ghost_found g reached h w childless =
      record { reached = reached; highest = record { tabled = h; passes = w; highest = λ b l p. above b l p (one_line vs t.up tabled.falls some_weight pv b g few (leb→le _ _ p) (leb→le _ _ w)) } }
    where
      under : (b : ℕ) → b < t.count → T (weighty vs t.up pv b) → T (below t.up g b) → Dec (g ≡ b) → t.number b ≤ t.number g
      under b l p m (yes e) = omega (arith, ap t.number e)
      under b l p m (no n) =
          let c = child_towards t.up tabled.falls g b m n in
          absurd (childless c.0 (omega (arith, below_le t.up tabled.falls c.0 b c.2)) c.1
          (omega (arith, leb→le, le→leb, weight_up vs t.up pv tabled.falls c.0 b c.2)))

      above : (b : ℕ) → b < t.count → T (weighty vs t.up pv b) → T (below t.up b g) ⊎ T (below t.up g b) → t.number b ≤ t.number g
      above b l p (inl m) = number_below t tabled b g m h
      above b l p (inr m) = under b l p m (ℕ_discrete g b)

module _ (vs : Voters) (up : ℕ → ℕ) (falls : (k : ℕ) → up k ≤ pred k) (base : ℕ) (pc : ℕ → Vote) (g : ℕ) where
  -- finalized and estimate
  pub finalized_unique : (a b : ℕ) → Finalized vs up base pc g a → Finalized vs up base pc g b → a ≡ b
  finalized_unique a b p q = first_unique up falls base (weighty vs up pc) g a b p.first q.first

  pub estimate_unique : (a b : ℕ) → Estimate vs up base pc g a → Estimate vs up base pc g b → a ≡ b
  estimate_unique a b (inl p) (inl q) = p.1 ∙ sym q.1
  estimate_unique a b (inl p) (inr q) = absurd (omega (arith, p.0, q.0))
  estimate_unique a b (inr p) (inl q) = absurd (omega (arith, p.0, q.0))
  estimate_unique a b (inr p) (inr q) = first_unique up falls base (possible_at vs up pc) g a b p.1 q.1

  -- weight of T or more is possible
  pub weighty_possible : (b : ℕ) → T (weighty vs up pc b) → T (possible_at vs up pc b)
  weighty_possible b t = omega (arith, leb→le, le→leb)

  -- an estimate lies at or below the finalized block
  pub estimate_below : (f e : ℕ) → Finalized vs up base pc g f → Estimate vs up base pc g e → T (below up f e)
  estimate_below f e p (inl q) = absurd (omega (arith, p.reached, q.0))
  estimate_below f e p (inr q) =
      first_down up falls base (weighty vs up pc) (possible_at vs up pc) weighty_possible g g f e (below_refl up falls g) p.first q.1

  module _ (inside : T (below up base g)) where
    pub finalized_says : Says (Finalized vs up base pc g) (finalized_of vs up base pc g)
    unfolding finalized_of
    finalized_says =
        by_test (Says (Finalized vs up base pc g)) (leb (threshold (total vs)) (heard vs pc)) _ None
        (λ r. go (leb→le _ _ r) (first_of up (weighty vs up pc) base g) (first_says up falls base (weighty vs up pc) g inside))
        (λ r x p. omega (arith, nleb→lt, p.reached))
      where
        go : threshold (total vs) ≤ heard vs pc → (o : Option ℕ) → Says (First up (weighty vs up pc) base g) o → Says (Finalized vs up base pc g) o
        go h None n = λ x p. n x p.first
        go h (Some b) p = record { reached = h; first = p }

    pub estimate_says : Says (Estimate vs up base pc g) (estimate_of vs up base pc g)
    unfolding estimate_of
    estimate_says =
        by_test (Says (Estimate vs up base pc g)) (leb (threshold (total vs)) (heard vs pc)) _ (Some g)
        (λ r. go (leb→le _ _ r) (first_of up (possible_at vs up pc) base g) (first_says up falls base (possible_at vs up pc) g inside))
        (λ r. inl (nleb→lt _ _ r, refl))
      where
        go : threshold (total vs) ≤ heard vs pc → (o : Option ℕ) → Says (First up (possible_at vs up pc) base g) o → Says (Estimate vs up base pc g) o
        go h None n = λ x p. ⊎_elim (λ q. omega (arith, q.0)) (λ q. n x q.1) p
        go h (Some b) p = inr (h, p)

    -- the children that are asked lie in a table of n blocks
    module _ (ask : ℕ → Bool) (n : ℕ) (few : (k : ℕ) → T (ask k) → k < n) where
      abbrev asked : ℕ → Bool
      asked k = child up g k && (ask k && possible_at vs up pc k)

      abbrev Settled : ℕ → Type 0
      Settled e = (e ≢ g) ⊎ ((k : ℕ) → T (child up g k) → T (ask k) → T (possible_at vs up pc k) → ⊥)

      settled_told : (e : ℕ) → T (not (eqb e g) || all n (λ k. not (asked k))) → Settled e
      settled_told e t = go (either (not (eqb e g)) (all n (λ k. not (asked k))) t)
        where
          go : T (not (eqb e g)) ⊎ T (all n (λ k. not (asked k))) → Settled e
          go (inl l) = inl (λ q. T_not (eqb e g) l (subst (λ (x : ℕ). T (eqb e x)) q (eqb_refl e)))
          go (inr l) =
              inr (λ k c a p. T_not (asked k) (all_at (λ k. not (asked k)) n l k (few k a))
              (both (child up g k) _ c (both (ask k) _ a p)))

      told_settled : (e : ℕ) → Settled e → T (not (eqb e g) || all n (λ k. not (asked k)))
      told_settled e (inl l) = in_left (not (eqb e g)) _ (not_T (eqb e g) (λ t. l (eqb→eq e g t)))
      told_settled e (inr l) =
          in_right (not (eqb e g)) _ (all_intro (λ k. not (asked k)) n (λ k h. not_T (asked k) (λ t.
          let r = right_of (child up g k) _ t in
          l k (left_of (child up g k) _ t) (left_of (ask k) _ r) (right_of (ask k) _ r))))

      pub completable_says : T (completable_of vs up base pc ask n g) ↔ Completable vs up base pc ask g
      unfolding completable_of
      completable_says = (
        (λ t. to (first_of up (possible_at vs up pc) base g) (first_says up falls base (possible_at vs up pc) g inside)
            (leb→le _ _ (left_of (leb (threshold (total vs)) (heard vs pc)) _ t))
            (right_of (leb (threshold (total vs)) (heard vs pc)) _ t)),
        (λ c. both (leb (threshold (total vs)) (heard vs pc)) _ (le→leb _ _ c.reached)
            (fro c (first_of up (possible_at vs up pc) base g) (first_says up falls base (possible_at vs up pc) g inside))),
      )
        where
          to : (o : Option ℕ) → Says (First up (possible_at vs up pc) base g) o → threshold (total vs) ≤ heard vs pc
              → T (settled_at g (all n (λ k. not (asked k))) o) → Completable vs up base pc ask g
          to None p h t = absurd t
          to (Some e) p h t = record { reached = h; estimate = e; first = p; settled = settled_told e t }

          fro : Completable vs up base pc ask g → (o : Option ℕ) → Says (First up (possible_at vs up pc) base g) o
              → T (settled_at g (all n (λ k. not (asked k))) o)
          fro c None p = absurd (p c.estimate c.first)
          fro c (Some e) p =
              told_settled e (subst Settled (first_unique up falls base (possible_at vs up pc) g c.estimate e c.first p) c.settled)

-- the paper's completable asks every child, the Rust's those with a vote-node at or below them: while E is at most F the two agree
module _ (vs : Voters) (t : Blocks) (falls : (k : ℕ) → t.up k ≤ pred k) (some_weight : 0 < total vs) (base : ℕ) (pv pc : ℕ → Vote)
    (placed : VotesPlaced vs t base pc) (few : equivocators vs pc ≤ fault (total vs)) where
  -- a possible block has a vote-node at or below it
  pub possible_noded : (k : ℕ) → threshold (total vs) ≤ heard vs pc → T (possible_at vs t.up pc k) → T (with_node vs t pv pc k)
  possible_noded k reached p = go (dec_T (with_node vs t pv pc k))
    where
      tabled : (x : Vote) → Placed t base x → T (lands t.up k x) → k < t.count
      tabled silent q l = absurd l
      tabled (once x) q l = omega (arith, below_le t.up falls k x l, q.0)
      tabled (twice x) q l = omega (arith, below_le t.up falls k x l, q.0)

      landed : (i : ℕ) → i < vs.size → T (lands t.up k (pc i)) → T (with_node vs t pv pc k)
      landed i h l =
          both (ltb k t.count) _ (lt→ltb _ _ (tabled (pc i) (placed i h) l))
          (any_intro _ vs.size i h (in_right (lands t.up k (pv i)) _ l))

      go : Dec (T (with_node vs t pv pc k)) → T (with_node vs t pv pc k)
      go (yes r) = r
      go (no r) = absurd (bare_impossible vs t.up pc few k some_weight reached (λ i h l. r (landed i h l)) p)

  pub forms_agree : (g : ℕ) → Completable vs t.up base pc (every_child t) g ↔ Completable vs t.up base pc (with_node vs t pv pc) g
  forms_agree g = (
    (λ c. record {
      reached = c.reached;
      estimate = c.estimate;
      first = c.first;
      settled = ⊎_elim (λ n. inl n) (λ f. inr (λ k h a p. f k h (left_of (ltb k t.count) _ a) p)) c.settled;
    }),
    (λ c. record {
      reached = c.reached;
      estimate = c.estimate;
      first = c.first;
      settled = ⊎_elim (λ n. inl n) (λ f. inr (λ k h a p. f k h (possible_noded k c.reached p) p)) c.settled;
    }),
  )
