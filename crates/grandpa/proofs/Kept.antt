-- Nothing told is taken back, over the definitions. A GHOST that was told may be any block that later ones lie at or below:
-- the definition's, while prevote equivocators are at most F, or one that is stored and started from, with no premise.
use mathlib.Core.Bool.{Bool, true, false, not}
use mathlib.Core.Path.{◌≡◌, refl, sym, ap, subst, ◌∙◌}
use mathlib.Core.Logic.{◌≢◌, ◌⊎◌, inl, inr, ⊎_elim, ◌↔◌}
use Prim.Native.Nat.{ℕ, pred, ◌+◌, ◌≤◌, ◌<◌}
use native.Mathlib.Decide.{ℕ_discrete}
use native.Mathlib.Omega.{arith}
use lib.Dec.{T, leb, ltb, eqb, leb→le, le→leb, ltb→lt, T_not, not_T}
use Rattle.loops.proofs.Tests.{left_of}
use Rattle.grandpa.specs.Weight.{fault, threshold}
use Rattle.grandpa.specs.Tree.{Blocks, Tabled, below, child}
use Rattle.grandpa.specs.Vote.{Vote, Voters, total, heard, equivocators, weighty}
use Rattle.grandpa.specs.Possible.{possible_at}
use Rattle.grandpa.specs.Answers.{Says, Ghost, ghost_of, First, Finalized, finalized_of, Estimate, estimate_of, Completable, with_node, completable_of, Told, told_from, told}
use Rattle.grandpa.specs.Time.{VotesLater, VotesPlaced, Grown, Stored, Down, Ordered, Kept}
use Rattle.grandpa.proofs.Trees.{below_refl, below_trans, below_le, below_antisym, below_line, below_same, child_towards}
use Rattle.grandpa.proofs.Votes.{base_weight, heard_grows, equivocators_grow, weighty_stays, possible_shrinks, possible_up}
use Rattle.grandpa.proofs.Searches.{first_down, first_unique, first_some}
use Rattle.grandpa.proofs.Growth.{placed_same, weight_same, told_same}
use Rattle.grandpa.proofs.Answers.{ghost_says, ghost_some, ghost_under, ghost_inside, finalized_says, estimate_says, estimate_below, estimate_unique, weighty_possible, completable_says, possible_noded}
use Rattle.std.specs.Prelude.{Option, Some, None}

-- on one table, from g to g'
module _ (vs : Voters) (t : Blocks) (falls : (k : ℕ) → t.up k ≤ pred k) (some_weight : 0 < total vs) (base : ℕ)
    (pv pv' pc pc' : ℕ → Vote) (later : VotesLater vs pc pc') (placed : VotesPlaced vs t base pc) (placed' : VotesPlaced vs t base pc')
    (g g' : ℕ) (down : T (below t.up g g')) (inside : T (below t.up base g)) where
  inside' : T (below t.up base g')
  inside' = below_trans t.up falls base g g' inside down

  finalized_later : (f : ℕ) → Finalized vs t.up base pc g f → (e : ℕ) × Finalized vs t.up base pc' g' e
  finalized_later f p =
      let r = first_some t.up falls base (weighty vs t.up pc') g' f p.first.inside
      (below_trans t.up falls f g g' p.first.above down) (weighty_stays vs pc pc' later t.up f p.first.passes) in
      (r.0, record { reached = omega (arith, p.reached, heard_grows vs pc pc' later); first = r.1 })

  finalized_down : (f f' : ℕ) → Finalized vs t.up base pc g f → Finalized vs t.up base pc' g' f' → T (below t.up f f')
  finalized_down f f' p q =
      first_down t.up falls base (weighty vs t.up pc) (weighty vs t.up pc') (λ x. weighty_stays vs pc pc' later t.up x) g g' f f' down p.first q.first

  module _ (few : equivocators vs pc' ≤ fault (total vs)) (c : Completable vs t.up base pc (with_node vs t pv pc) g) where
    abbrev shrinks : (x : ℕ) → T (possible_at vs t.up pc' x) → T (possible_at vs t.up pc x)
    shrinks x = possible_shrinks vs pc pc' later t.up x few

    -- no child of g was possible, with a vote-node or without, where the estimate was g
    childless : c.estimate ≡ g → (k : ℕ) → T (child t.up g k) → T (possible_at vs t.up pc k) → ⊥
    childless e k h p =
        ⊎_elim (λ n. n e)
        (λ f. f k h (possible_noded vs t falls some_weight base pv pc placed (omega (arith, equivocators_grow vs pc pc' later)) k c.reached p) p)
        c.settled

    -- what is still possible on the way to the later GHOST is at or above the earlier estimate
    still_above : (x : ℕ) → T (below t.up base x) → T (below t.up x g') → T (possible_at vs t.up pc' x) → T (below t.up x c.estimate)
    still_above x l m p = go (below_line t.up falls x g g' m down) (ℕ_discrete g x)
      where
        go : T (below t.up x g) ⊎ T (below t.up g x) → Dec (g ≡ x) → T (below t.up x c.estimate)
        go (inl h) d = c.first.nearest x l h (shrinks x p)
        go (inr h) (yes e) = c.first.nearest x l (subst (λ (y : ℕ). T (below t.up x y)) (sym e) (below_refl t.up falls x)) (shrinks x p)
        go (inr h) (no n) =
            let k = child_towards t.up falls g x h n in
            let g_possible = possible_up vs t.up pc falls g x h (shrinks x p) in
            let e : c.estimate ≡ g = below_antisym t.up falls c.estimate g c.first.above
            (c.first.nearest g inside (below_refl t.up falls g) g_possible) in
            absurd (childless e k.0 k.1 (possible_up vs t.up pc falls k.0 x k.2 (shrinks x p)))

    reached_later : threshold (total vs) ≤ heard vs pc'
    reached_later = omega (arith, c.reached, heard_grows vs pc pc' later)

    estimate_later : (e : ℕ) × First t.up (possible_at vs t.up pc') base g' e
    estimate_later =
        first_some t.up falls base (possible_at vs t.up pc') g' base (below_refl t.up falls base) inside'
        (weighty_possible vs t.up falls base pc' g' base (omega (arith, le→leb, base_weight vs t base pc' placed', reached_later)))

    estimate_up : (e : ℕ) → Estimate vs t.up base pc' g' e → T (below t.up e c.estimate)
    estimate_up e (inl q) = absurd (omega (arith, q.0, reached_later))
    estimate_up e (inr q) = still_above e q.1.inside q.1.above q.1.passes

    completable_later : Completable vs t.up base pc' (with_node vs t pv' pc') g'
    completable_later =
        record { reached = reached_later; estimate = estimate_later.0; first = estimate_later.1; settled = go (ℕ_discrete estimate_later.0 g') }
      where
        go : Dec (estimate_later.0 ≡ g')
            → (estimate_later.0 ≢ g') ⊎ ((k : ℕ) → T (child t.up g' k) → T (with_node vs t pv' pc' k) → T (possible_at vs t.up pc' k) → ⊥)
        go (no n) = inl n
        go (yes q) =
            let r = estimate_later.1 in
            let top = below_le t.up falls estimate_later.0 c.estimate (still_above estimate_later.0 r.inside r.above r.passes) in
            let a = below_le t.up falls c.estimate g c.first.above in
            let b = below_le t.up falls g g' down in
            let i : g' ≡ g = omega arith in
            let j : c.estimate ≡ g = omega arith in
            inr (λ k h n p. childless j k (subst (λ (y : ℕ). T (child t.up y k)) i h) (shrinks k p))

-- two answers by what they say: the second exists where the first does, and is at or below it
down_by : (up : ℕ → ℕ) (P Q : ℕ → Type 0) (o o' : Option ℕ) → Says P o → Says Q o'
    → ((x : ℕ) → P x → (y : ℕ) × Q y) → ((x y : ℕ) → P x → Q y → T (below up x y)) → Down up o o'
down_by up P Q None o' p q some_later r = tt
down_by up P Q (Some x) None p q some_later r = let y = some_later x p in q y.0 y.1
down_by up P Q (Some x) (Some y) p q some_later r = r x y p q

-- an estimate lies at or below the finalized block
pub told_ordered : (vs : Voters) (t : Blocks) (falls : (k : ℕ) → t.up k ≤ pred k) (base : ℕ) (pv pc : ℕ → Vote) (o : Option ℕ)
    → Stored t base o → Ordered t.up (told_from vs t base pv pc o)
unfolding told_from
told_ordered vs t falls base pv pc None p = tt
told_ordered vs t falls base pv pc (Some g) p =
    down_by t.up _ _ (finalized_of vs t.up base pc g) (estimate_of vs t.up base pc g)
    (finalized_says vs t.up falls base pc g p.1) (estimate_says vs t.up falls base pc g p.1)
    (λ f q.
    let e = first_some t.up falls base (possible_at vs t.up pc) g f q.first.inside q.first.above
    (weighty_possible vs t.up falls base pc g f q.first.passes) in
    (e.0, inr (q.reached, e.1)))
    (estimate_below vs t.up falls base pc g)

module _ (vs : Voters) (some_weight : 0 < total vs) (base : ℕ) (s t : Blocks) (tabled_s : Tabled s) (tabled : Tabled t) (grown : Grown s t)
    (pv pv' pc pc' : ℕ → Vote) (placed_v : VotesPlaced vs s base pv) (placed_c : VotesPlaced vs s base pc)
    (placed_c' : VotesPlaced vs t base pc') (later_c : VotesLater vs pc pc') where
  abbrev placed_t : VotesPlaced vs t base pc
  placed_t i h = placed_same vs s t tabled_s.falls grown base (pc i) (placed_c i h)

  -- on the later table
  kept_from : (g g' : ℕ) → T (below t.up g g') → T (below t.up base g)
      → Kept t.up (equivocators vs pc' ≤ fault (total vs)) (told_from vs t base pv pc (Some g)) (told_from vs t base pv' pc' (Some g'))
  unfolding told_from
  kept_from g g' down inside =
      record {
        ghost = down;
        finalized =
            down_by up _ _ (finalized_of vs up base pc g) (finalized_of vs up base pc' g')
            (finalized_says vs up falls base pc g inside) (finalized_says vs up falls base pc' g' inside2)
            (finalized_later vs t falls some_weight base pv pv' pc pc' later_c placed_t placed_c' g g' down inside)
            (finalized_down vs t falls some_weight base pv pv' pc pc' later_c placed_t placed_c' g g' down inside);
        completable = λ few c. later_is.1 (completable_later vs t falls some_weight base pv pv' pc pc' later_c placed_t placed_c' g g' down inside few (is.0 c));
        estimate = λ few c.
            down_by up _ _ (estimate_of vs up base pc' g') (estimate_of vs up base pc g)
            (estimate_says vs up falls base pc' g' inside2) (estimate_says vs up falls base pc g inside)
            (λ e q. ((is.0 c).estimate, inr ((is.0 c).reached, (is.0 c).first)))
            (λ e d q r. subst (λ (x : ℕ). T (below up e x))
            (estimate_unique vs up falls base pc g (is.0 c).estimate d (inr ((is.0 c).reached, (is.0 c).first)) r)
            (estimate_up vs t falls some_weight base pv pv' pc pc' later_c placed_t placed_c' g g' down inside few (is.0 c) e q));
      }
    where
      up : ℕ → ℕ
      up = t.up

      falls : (k : ℕ) → t.up k ≤ pred k
      falls = tabled.falls

      inside2 : T (below t.up base g')
      inside2 = below_trans t.up tabled.falls base g g' inside down

      is : T (completable_of vs t.up base pc (with_node vs t pv pc) t.count g) ↔ Completable vs t.up base pc (with_node vs t pv pc) g
      is = completable_says vs t.up tabled.falls base pc g inside (with_node vs t pv pc) t.count (λ k a. ltb→lt k t.count (left_of (ltb k t.count) _ a))

      later_is : T (completable_of vs t.up base pc' (with_node vs t pv' pc') t.count g') ↔ Completable vs t.up base pc' (with_node vs t pv' pc') g'
      later_is = completable_says vs t.up tabled.falls base pc' g' inside2 (with_node vs t pv' pc') t.count (λ k a. ltb→lt k t.count (left_of (ltb k t.count) _ a))

  -- nothing told is taken back, whatever the GHOST that was told, if the later one is it or a descendant
  pub told_kept : (o o' : Option ℕ) → Stored s base o → Down t.up o o'
      → Kept t.up (equivocators vs pc' ≤ fault (total vs)) (told_from vs s base pv pc o) (told_from vs t base pv' pc' o')
  told_kept o o' stored down = rw (told_same vs s t tabled_s.falls grown base pv pc placed_v placed_c o stored) (go o o' stored down)
    where
      go : (o o' : Option ℕ) → Stored s base o → Down t.up o o'
          → Kept t.up (equivocators vs pc' ≤ fault (total vs)) (told_from vs t base pv pc o) (told_from vs t base pv' pc' o')
      go None o' st d = from_nothing o'
        where
          from_nothing : (o' : Option ℕ) → Kept t.up (equivocators vs pc' ≤ fault (total vs)) (told_from vs t base pv pc None) (told_from vs t base pv' pc' o')
          from_nothing x = unfold told_from in record { ghost = tt; finalized = tt; completable = λ few c. absurd c; estimate = λ few c. absurd c }
      go (Some g) None st d = absurd d
      go (Some g) (Some g') st d =
          kept_from g g' d (subst T (below_same s.count s.up t.up tabled_s.falls grown.same_up base g st.0) st.1)

  -- the definition's GHOST moves down, while prevote equivocators are at most F at the later call
  module _ (later_v : VotesLater vs pv pv') (few_v : equivocators vs pv' ≤ fault (total vs)) where
    pub ghost_down : Down t.up (ghost_of vs s pv) (ghost_of vs t pv')
    ghost_down =
        down_by t.up (Ghost vs s pv) (Ghost vs t pv') (ghost_of vs s pv) (ghost_of vs t pv') (ghost_says vs s pv) (ghost_says vs t pv')
        (λ g p. ghost_some vs t pv' g (omega (arith, p.reached, heard_grows vs pv pv' later_v)) (early g p) (weighs g p))
        (λ g h p q. ghost_under vs t tabled some_weight pv' few_v h g q (early g p) (weighs g p))
      where
        early : (g : ℕ) → Ghost vs s pv g → g < t.count
        early g p = omega (arith, p.highest.tabled, grown.more)

        weighs : (g : ℕ) → Ghost vs s pv g → T (weighty vs t.up pv' g)
        weighs g p =
            weighty_stays vs pv pv' later_v t.up g
            (subst (λ (w : ℕ). T (leb (threshold (total vs)) w)) (weight_same vs s t tabled_s.falls grown base pv placed_v g) p.highest.passes)

    -- so nothing that the definitions tell is taken back
    pub nothing_taken_back : base < s.count
        → Kept t.up (equivocators vs pc' ≤ fault (total vs)) (told vs s base pv pc) (told vs t base pv' pc')
    unfolding told
    nothing_taken_back h = told_kept (ghost_of vs s pv) (ghost_of vs t pv') (inside (ghost_of vs s pv) (ghost_says vs s pv)) ghost_down
      where
        inside : (o : Option ℕ) → Says (Ghost vs s pv) o → Stored s base o
        inside None n = tt
        inside (Some g) p =
            (p.highest.tabled, ghost_inside vs s tabled_s some_weight pv (omega (arith, equivocators_grow vs pv pv' later_v)) base g p h placed_v)
