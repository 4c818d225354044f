-- A vote put into the graph keeps the graph's shape.
use mathlib.Core.Bool.{Bool, true, false, cond, not, ◌&&◌, ◌||◌}
use mathlib.Core.List.{List, [], ◌∷◌, ◌++◌}
use mathlib.Core.Path.{◌≡◌, refl, sym, ap, ap₂, subst, ◌∙◌}
use mathlib.Core.Logic.{◌≢◌, ◌⊎◌, inl, inr, ⊎_elim}
use Prim.Native.Nat.{ℕ, zero, suc, pred, ◌+◌, ◌*◌, ◌≤◌, ◌<◌}
use native.Mathlib.Decide.{ℕ_discrete}
use native.Mathlib.Omega.{arith}
use lib.Dec.{T, eqb, ltb, eqb→eq, eqb_refl, ltb→lt, nltb→le, T_not, not_T}
use lib.ListN.{length}
use borrow.Author.Tests.{eq-eqb, ne_eqb, lt-ltb, le-ltb}
use Rattle.sizes.specs.Sizes.{WORDS, VOTES}
use Rattle.loops.specs.Listing.{times, keep}
use Rattle.loops.proofs.Tests.{by_test, same_test, dec_T, in_left, in_right, either, both, left_of, right_of, true_T, false_T, le_or_lt}
use Rattle.loops.proofs.Listings.{times_append, times_here, times_past, times_none, times_more, times_keep}
use Rattle.grandpa.specs.Tree.{below}
use Rattle.grandpa.specs.Vote.{Vote, silent, once, twice, lands}
use Rattle.grandpa.proofs.Trees.{below_refl, below_up, below_trans, below_le, below_antisym, below_step}
use Rattle.bitfield.specs.Bits.{has, put}
use Rattle.bitfield.proofs.Sets.{has_put, length_put}
use Rattle.graph.specs.Search.{containing, nearest}
use Rattle.graph.specs.Graph.{Graph, join_of, enter, relist, rehead, add_node, mark, insert}
use Rattle.graph.specs.Shape.{Holds, Tip, Rising, Nodes, Bits, Voted, UsedOnly, Targets, Shape, with_vote}
use Rattle.graph.proofs.Climbs.{Nearest, nearest_says, holds_past}
use Rattle.graph.proofs.Found.{containing_once, containing_only, containing_over}
use Rattle.graph.proofs.Tallies.{join_told, length_join}

-- entering t among places
module _ (ids : ℕ → ℕ) (t : ℕ) where
  enter_here : (l : List ℕ) → times t (enter ids t l) ≡ suc (times t l)
  unfolding enter
  enter_here [] = times_here t []
  enter_here (h ∷ hs) =
      by_test (λ (l : List ℕ). times t l ≡ suc (times t (h ∷ hs))) (ltb (ids t) (ids h)) (t ∷ h ∷ hs) (h ∷ enter ids t hs)
      (λ e. times_here t (h ∷ hs)) (λ e. go (ℕ_discrete h t) (enter_here hs))
    where
      go : Dec (h ≡ t) → times t (enter ids t hs) ≡ suc (times t hs) → times t (h ∷ enter ids t hs) ≡ suc (times t (h ∷ hs))
      go (yes q) r = rw q (omega (arith, times_here t (enter ids t hs), times_here t hs))
      go (no n) r = omega (arith, times_past t h (enter ids t hs) n, times_past t h hs n)

  enter_other : (x : ℕ) → t ≢ x → (l : List ℕ) → times x (enter ids t l) ≡ times x l
  unfolding enter
  enter_other x n [] = times_past x t [] n
  enter_other x n (h ∷ hs) =
      by_test (λ (l : List ℕ). times x l ≡ times x (h ∷ hs)) (ltb (ids t) (ids h)) (t ∷ h ∷ hs) (h ∷ enter ids t hs)
      (λ e. times_past x t (h ∷ hs) n) (λ e. go (ℕ_discrete h x) (enter_other x n hs))
    where
      go : Dec (h ≡ x) → times x (enter ids t hs) ≡ times x hs → times x (h ∷ enter ids t hs) ≡ times x (h ∷ hs)
      go (yes q) r = rw q (omega (arith, times_here x (enter ids t hs), times_here x hs))
      go (no m) r = omega (arith, times_past x h (enter ids t hs) m, times_past x h hs m)

  enter_rising : (l : List ℕ) → ((y : ℕ) → 0 < times y l → ids y ≢ ids t) → Rising ids l → Rising ids (enter ids t l)
  unfolding enter
  enter_rising [] apart r = ((λ y h. absurd (omega (arith, times_none y))), tt)
  enter_rising (h ∷ hs) apart r =
      by_test (Rising ids) (ltb (ids t) (ids h)) (t ∷ h ∷ hs) (h ∷ enter ids t hs)
      (λ l. ((λ y m. before l y m (ℕ_discrete h y)), r))
      (λ l. ((λ y m. after l y m (ℕ_discrete t y)), enter_rising hs (λ y m. apart y (times_more y h hs m)) r.1))
    where
      before : T (ltb (ids t) (ids h)) → (y : ℕ) → 0 < times y (h ∷ hs) → Dec (h ≡ y) → ids t < ids y
      before l y m (yes e) = rw (← e) (ltb→lt (ids t) (ids h) l)
      before l y m (no n) = omega (arith, ltb→lt (ids t) (ids h) l, r.0 y (omega (arith, times_past y h hs n)))

      after : T (not (ltb (ids t) (ids h))) → (y : ℕ) → 0 < times y (enter ids t hs) → Dec (t ≡ y) → ids h < ids y
      after l y m (yes e) = rw (← e) (omega (arith, nltb→le (ids t) (ids h) l, apart h (omega (arith, times_here h hs))))
      after l y m (no n) = r.0 y (omega (arith, enter_other y n hs))

keep_rising : (ids : ℕ → ℕ) (p : ℕ → Bool) (l : List ℕ) → Rising ids l → Rising ids (keep p l)
unfolding keep
keep_rising ids p [] r = tt
keep_rising ids p (x ∷ xs) r =
    by_test (Rising ids) (p x) (x ∷ keep p xs) (keep p xs)
    (λ t. ((λ y m. r.0 y (kept y m)), keep_rising ids p xs r.1)) (λ t. keep_rising ids p xs r.1)
  where
    kept : (y : ℕ) → 0 < times y (keep p xs) → 0 < times y xs
    kept y m = go (p y) (times_keep p y xs)
      where
        go : (b : Bool) → times y (keep p xs) ≡ cond b (times y xs) 0 → 0 < times y xs
        go true e = omega arith
        go false e = absurd (omega arith)

module _ (up ids : ℕ → ℕ) (falls : (k : ℕ) → up k ≤ pred k) (base count : ℕ) (used : ℕ → Bool) (order heads : List ℕ)
    (nodes : Nodes up ids base count used order heads) (t : ℕ) (bare : T (not (used t))) (in_base : T (below up base t)) (in_table : t < count)
    (apart : (y : ℕ) → T (used y) → ids y ≢ ids t) where
  abbrev used' : ℕ → Bool
  used' x = used x || eqb x t

  -- the new node and the old ones
  new_or_old : (x : ℕ) → T (used' x) → T (used x) ⊎ (x ≡ t)
  new_or_old x u = ⊎_elim (λ v. inl v) (λ e. inr (eqb→eq x t e)) (either (used x) (eqb x t) u)

  old : (x : ℕ) → T (used x) → T (used' x)
  old x u = in_left (used x) (eqb x t) u

  new : T (used' t)
  new = in_right (used t) (eqb t t) (eqb_refl t)

  not_new : (x : ℕ) → T (used x) → x ≢ t
  not_new x u e = T_not (used t) bare (subst (λ (z : ℕ). T (used z)) e u)

  -- the search's members, by what is known of them
  module _ (ms : List ℕ) (single : (x : ℕ) → times x ms ≤ 1) (only : (x : ℕ) → 0 < times x ms → Holds up used t x)
      (over : (y : ℕ) → T (used y) → T (below up t y) → (x : ℕ) × (0 < times x ms) × Holds up used t x × T (below up x y)) where
    member_past : (x : ℕ) → 0 < times x ms → t < x
    member_past x h = holds_past up falls used t x bare (only x h)

    relist_times : (x : ℕ) → times x (relist t ms order) ≡ cond (eqb (times x ms) 0) (times x order) 0 + (times x ms + times x (t ∷ []))
    unfolding relist
    relist_times x =
        omega (arith, times_append x (keep (λ x. eqb (times x ms) 0) order) (ms ++ (t ∷ [])), times_keep (λ x. eqb (times x ms) 0) x order, times_append x ms (t ∷ []))

    listed' : (x : ℕ) → T (used' x) → x ≢ base → times x (relist t ms order) ≡ 1
    listed' x u n = ⊎_elim was is (new_or_old x u)
      where
        was : T (used x) → times x (relist t ms order) ≡ 1
        was v = go (ℕ_discrete (times x ms) 0)
          where
            go : Dec (times x ms ≡ 0) → times x (relist t ms order) ≡ 1
            go (yes e) =
                omega (
                  arith,
                  relist_times x,
                  ap (λ (b : Bool). cond b (times x order) 0) (eq-eqb (times x ms) 0 e),
                  nodes.listed x v n,
                  times_past x t [] (λ q. not_new x v (sym q)),
                  times_none x,
                )
            go (no m) =
                omega (
                  arith,
                  relist_times x,
                  ap (λ (b : Bool). cond b (times x order) 0) (ne_eqb (times x ms) 0 m),
                  single x,
                  times_past x t [] (λ q. not_new x v (sym q)),
                  times_none x,
                )

        is : x ≡ t → times x (relist t ms order) ≡ 1
        is e =
            rw e (omega (arith, relist_times t, ap (λ (b : Bool). cond b (times t order) 0) (eq-eqb (times t ms) 0 none), none, unlisted, times_here t [], times_none t))
          where
            none : times t ms ≡ 0
            none = go (ℕ_discrete (times t ms) 0)
              where
                go : Dec (times t ms ≡ 0) → times t ms ≡ 0
                go (yes q) = q
                go (no q) = absurd (omega (arith, member_past t (omega arith)))

            unlisted : times t order ≡ 0
            unlisted = go (ℕ_discrete (times t order) 0)
              where
                go : Dec (times t order ≡ 0) → times t order ≡ 0
                go (yes q) = q
                go (no q) = absurd (not_new t (nodes.list_only t (omega arith)).0 refl)

    list_only' : (x : ℕ) → 0 < times x (relist t ms order) → T (used' x) × (x ≢ base)
    list_only' x h = go (ℕ_discrete (times x order) 0) (ℕ_discrete (times x ms) 0) (ℕ_discrete t x)
      where
        below_base : (y : ℕ) → T (below up t y) → y ≢ base
        below_base y l e = not_new base nodes.base_used (below_antisym up falls base t in_base (subst (λ (z : ℕ). T (below up t z)) e l))

        go : Dec (times x order ≡ 0) → Dec (times x ms ≡ 0) → Dec (t ≡ x) → T (used' x) × (x ≢ base)
        go (no a) b c = let r = nodes.list_only x (omega arith) in (old x r.0, r.1)
        go (yes a) (no b) c = let p = only x (omega arith) in (old x p.is_node, below_base x p.under)
        go (yes a) (yes b) (yes c) =
            (subst (λ (z : ℕ). T (used' z)) c new, λ e. below_base t (below_refl up falls t) (c ∙ e))
        go (yes a) (yes b) (no c) =
            absurd (omega (arith, relist_times x, less (eqb (times x ms) 0), times_past x t [] c, times_none x))
          where
            less : (z : Bool) → cond z (times x order) 0 ≤ times x order
            less true = omega arith
            less false = omega arith

    unheaded : times t heads ≡ 0
    unheaded = go (ℕ_discrete (times t heads) 0)
      where
        go : Dec (times t heads ≡ 0) → times t heads ≡ 0
        go (yes q) = q
        go (no q) = absurd (not_new t (nodes.head_only t (omega arith)).0 refl)

    -- a tip among the nodes with t is one without
    tip_old : (x : ℕ) → Tip up used' x → Tip up used x
    tip_old x tip y u l = tip y (old y u) l

    -- where the search met a member, the heads stay
    module _ (m : ℕ) (met : 0 < times m ms) where
      headed_some : (x : ℕ) → T (used' x) → Tip up used' x → times x heads ≡ 1
      headed_some x u tip = ⊎_elim (λ v. nodes.headed x v (tip_old x tip)) (λ e. absurd (is e)) (new_or_old x u)
        where
          is : x ≡ t → ⊥
          is e =
              let p = only m met in
              omega (arith, tip m (old m p.is_node) (subst (λ (z : ℕ). T (below up z m)) (sym e) p.under), member_past m met)

      head_only_some : (x : ℕ) → 0 < times x heads → T (used' x) × Tip up used' x
      head_only_some x h =
          let r = nodes.head_only x h in
          (old x r.0, λ y u l. ⊎_elim (λ v. r.1 y v l) (λ e. absurd (is r.1 (subst (λ (z : ℕ). T (below up x z)) e l))) (new_or_old y u))
        where
          is : Tip up used x → T (below up x t) → ⊥
          is tip l =
              let p = only m met in
              let e : m ≡ x = tip m p.is_node (below_trans up falls x t m l p.under) in
              omega (arith, member_past m met, below_le up falls x t l)

    -- where it met none, t is a head in the place of the node above it
    module _ (a : ℕ) (near : Nearest up falls used (up t) a) (none : (y : ℕ) → 0 < times y ms → ⊥) where
      abbrev others : List ℕ
      others = keep (λ x. not (eqb x a)) heads

      above_t : T (below up a t)
      above_t = below_trans up falls a (up t) t near.above (below_up up falls t)

      nothing_below : (y : ℕ) → T (used y) → T (below up t y) → ⊥
      nothing_below y u l = let r = over y u l in none r.0 r.1

      others_times : (x : ℕ) → times x others ≡ cond (not (eqb x a)) (times x heads) 0
      others_times x = times_keep (λ x. not (eqb x a)) x heads

      others_in : (x : ℕ) → 0 < times x others → (0 < times x heads) × (x ≢ a)
      others_in x h = go (ℕ_discrete x a)
        where
          go : Dec (x ≡ a) → (0 < times x heads) × (x ≢ a)
          go (yes e) = absurd (omega (arith, others_times x, ap (λ (b : Bool). cond (not b) (times x heads) 0) (eq-eqb x a e)))
          go (no n) = (omega (arith, others_times x, ap (λ (b : Bool). cond (not b) (times x heads) 0) (ne_eqb x a n)), n)

      headed_nil : (x : ℕ) → T (used' x) → Tip up used' x → times x (enter ids t others) ≡ 1
      headed_nil x u tip = ⊎_elim was is (new_or_old x u)
        where
          was : T (used x) → times x (enter ids t others) ≡ 1
          was v =
              let n : x ≢ a = λ e. not_new x v (sym (tip t new (subst (λ (z : ℕ). T (below up z t)) (sym e) above_t))) in
              omega (
                arith,
                enter_other ids t x (λ e. not_new x v (sym e)) others,
                others_times x,
                ap (λ (b : Bool). cond (not b) (times x heads) 0) (ne_eqb x a n),
                nodes.headed x v (tip_old x tip),
              )

          is : x ≡ t → times x (enter ids t others) ≡ 1
          is e = rw e (omega (arith, enter_here ids t others, others_times t, gone (not (eqb t a))))
            where
              gone : (z : Bool) → cond z (times t heads) 0 ≡ 0
              gone true = unheaded
              gone false = refl

      head_only_nil : (x : ℕ) → 0 < times x (enter ids t others) → T (used' x) × Tip up used' x
      head_only_nil x h = go (ℕ_discrete t x)
        where
          go : Dec (t ≡ x) → T (used' x) × Tip up used' x
          go (yes e) = (
            subst (λ (z : ℕ). T (used' z)) e new,
            λ y u l. ⊎_elim (λ v. absurd (nothing_below y v (subst (λ (z : ℕ). T (below up z y)) (sym e) l))) (λ q. q ∙ e) (new_or_old y u),
          )
          go (no n) =
              let i = others_in x (omega (arith, enter_other ids t x n others)) in
              let r = nodes.head_only x i.0 in (
                old x r.0,
                λ y u l. ⊎_elim (λ v. r.1 y v l)
                    (λ q. absurd (i.1 (sym (r.1 a near.is_node
                    (near.first x r.0 (below_step up falls x t (subst (λ (z : ℕ). T (below up x z)) q l) (λ z. n (sym z)))))))) (new_or_old y u),
              )

      rising_nil : Rising ids (enter ids t others)
      rising_nil =
          enter_rising ids t others (λ y h. apart y (nodes.head_only y (others_in y h).0).0) (keep_rising ids (λ x. not (eqb x a)) heads nodes.rising)

    nodes_with : (hs : List ℕ) → ((x : ℕ) → T (used' x) → Tip up used' x → times x hs ≡ 1)
        → ((x : ℕ) → 0 < times x hs → T (used' x) × Tip up used' x) → Rising ids hs
        → Nodes up ids base count used' (relist t ms order) hs
    nodes_with hs h1 h2 h3 =
        record {
          base_used = old base nodes.base_used;
          inside = λ x u. ⊎_elim (nodes.inside x) (λ e. subst (λ (z : ℕ). T (below up base z)) (sym e) in_base) (new_or_old x u);
          tabled = λ x u. ⊎_elim (nodes.tabled x) (λ e. omega (arith, e)) (new_or_old x u);
          listed = listed';
          list_only = list_only';
          headed = h1;
          head_only = h2;
          rising = h3;
        }

  nodes_added : (a : ℕ) → Nearest up falls used (up t) a → (ms : List ℕ) → ((x : ℕ) → times x ms ≤ 1) → ((x : ℕ) → 0 < times x ms → Holds up used t x)
      → ((y : ℕ) → T (used y) → T (below up t y) → (x : ℕ) × (0 < times x ms) × Holds up used t x × T (below up x y))
      → Nodes up ids base count used' (relist t ms order) (rehead ids t ms a heads)
  nodes_added a near [] single only over =
      nodes_with [] single only over (enter ids t (keep (λ x. not (eqb x a)) heads))
      (headed_nil [] single only over a near (λ y h. omega (arith, times_none y)))
      (head_only_nil [] single only over a near (λ y h. omega (arith, times_none y)))
      (rising_nil [] single only over a near (λ y h. omega (arith, times_none y)))
  nodes_added a near (m ∷ ms) single only over =
      let met : 0 < times m (m ∷ ms) = omega (arith, times_here m ms) in
      nodes_with (m ∷ ms) single only over heads (headed_some (m ∷ ms) single only over m met) (head_only_some (m ∷ ms) single only over m met) nodes.rising

-- the node at t, where it is new
module _ (up ids : ℕ → ℕ) (falls : (k : ℕ) → up k ≤ pred k) (base count : ℕ) (g : Graph) (nodes : Nodes up ids base count g.used g.order g.heads)
    (t : ℕ) (in_base : T (below up base t)) (in_table : t < count) (bare : T (not (g.used t))) where
  above_new : Nearest up falls g.used (up t) (nearest up g.used (up t))
  above_new =
      nearest_says up falls g.used base nodes.base_used (up t)
      (below_step up falls base t in_base (λ e. T_not (g.used t) bare (subst (λ (z : ℕ). T (g.used z)) e nodes.base_used)))

  pub added_nodes : ((y : ℕ) → T (g.used y) → ids y ≢ ids t)
      → Nodes up ids base count (add_node up ids t g).used (add_node up ids t g).order (add_node up ids t g).heads
  unfolding add_node
  added_nodes apart =
      nodes_added up ids falls base count g.used g.order g.heads nodes t bare in_base in_table apart
      (nearest up g.used (up t)) above_new (containing up g.used g.heads t)
      (containing_once up ids falls base count g.used g.order g.heads nodes t bare)
      (containing_only up ids falls base count g.used g.order g.heads nodes t bare)
      (containing_over up ids falls base count g.used g.order g.heads nodes t bare)

module _ (up ids : ℕ → ℕ) (falls : (k : ℕ) → up k ≤ pred k) (base count : ℕ) (cast : ℕ → Vote) (t : ℕ) (in_base : T (below up base t)) (in_table : t < count) where
  module _ (g : Graph) (shape : Shape up ids base count cast g) (bare : T (not (g.used t))) where
    pub added_rows : Bits up cast (add_node up ids t g).used (add_node up ids t g).bits
    unfolding add_node
    added_rows =
        record {
          words = λ x u.
              by_test (λ (v : List ℕ). length v ≡ WORDS) (eqb x t) _ (g.bits x)
              (λ e. length_join g.bits (containing up g.used g.heads t))
              (λ e. shape.rows.words x (was x u e));
          told = λ x u j.
              by_test (λ (v : List ℕ). has v j ≡ lands up x (cast j)) (eqb x t) _ (g.bits x)
              (λ e. join_told up ids falls base count cast g shape t bare j ∙ ap (λ (z : ℕ). lands up z (cast j)) (sym (eqb→eq x t e)))
              (λ e. shape.rows.told x (was x u e) j);
        }
      where
        was : (x : ℕ) → T (g.used x || eqb x t) → T (not (eqb x t)) → T (g.used x)
        was x u n = ⊎_elim (λ v. v) (λ e. absurd (T_not (eqb x t) n e)) (either (g.used x) (eqb x t) u)

  -- bit j, silent until now, for a node that is there
  module _ (g : Graph) (j : ℕ) (few : j < VOTES) (quiet : cast j ≡ silent) (nodes : Nodes up ids base count g.used g.order g.heads)
      (rows : Bits up cast g.used g.bits) (here : T (g.used t)) where
    marked_rows : Bits up (with_vote cast j t) (mark up t j g).used (mark up t j g).bits
    unfolding mark
    marked_rows =
        record {
          words = λ x u.
              by_test (λ (v : List ℕ). length v ≡ WORDS) (g.used x && below up x t) (put (g.bits x) j) (g.bits x)
              (λ e. length_put (g.bits x) j ∙ rows.words x u) (λ e. rows.words x u);
          told = λ x u i.
              by_test (λ (v : List ℕ). has v i ≡ lands up x (with_vote cast j t i)) (g.used x && below up x t) (put (g.bits x) j) (g.bits x)
              (λ e. hit x u i (right_of (g.used x) (below up x t) e) (ℕ_discrete i j))
              (λ e. miss x u i (λ l. T_not (g.used x && below up x t) e (both (g.used x) (below up x t) u l)) (ℕ_discrete i j));
        }
      where
        vote_here : (i : ℕ) → i ≡ j → with_vote cast j t i ≡ once t
        vote_here i e = ap (λ (b : Bool). cond b (once t) (cast i)) (eq-eqb i j e)

        vote_other : (i : ℕ) → i ≢ j → with_vote cast j t i ≡ cast i
        vote_other i n = ap (λ (b : Bool). cond b (once t) (cast i)) (ne_eqb i j n)

        room : (x : ℕ) → T (g.used x) → j < 64 * length (g.bits x)
        room x u = rw (rows.words x u) few

        hit : (x : ℕ) → T (g.used x) → (i : ℕ) → T (below up x t) → Dec (i ≡ j) → has (put (g.bits x) j) i ≡ lands up x (with_vote cast j t i)
        hit x u i l (yes e) =
            has_put (g.bits x) j i (room x u) ∙ true_T _ (in_right (has (g.bits x) i) (eqb i j) (subst (λ (z : ℕ). T (eqb i z)) e (eqb_refl i)))
            ∙ sym (ap (lands up x) (vote_here i e) ∙ true_T (below up x t) l)
        hit x u i l (no n) =
            has_put (g.bits x) j i (room x u) ∙ ap (λ (b : Bool). has (g.bits x) i || b) (ne_eqb i j n) ∙ or_false (has (g.bits x) i)
            ∙ rows.told x u i ∙ ap (lands up x) (sym (vote_other i n))
          where
            or_false : (b : Bool) → (b || false) ≡ b
            or_false true = refl
            or_false false = refl

        miss : (x : ℕ) → T (g.used x) → (i : ℕ) → (T (below up x t) → ⊥) → Dec (i ≡ j) → has (g.bits x) i ≡ lands up x (with_vote cast j t i)
        miss x u i l (yes e) =
            rows.told x u i ∙ ap (λ (k : ℕ). lands up x (cast k)) e ∙ ap (lands up x) quiet
            ∙ sym (ap (lands up x) (vote_here i e) ∙ same_test (below up x t) false l (λ f. absurd f))
        miss x u i l (no n) = rows.told x u i ∙ ap (lands up x) (sym (vote_other i n))

    targeted : (v : Vote) → v ≡ once t → (x : ℕ) → Targets v x → t ≡ x
    targeted silent e x p = absurd p
    targeted (once y) e x p = let q : y ≡ t = cc in sym q ∙ p
    targeted (twice y) e x p = absurd (let z : ◌≡◌ {A = ℕ} 0 1 = cc in omega arith)

    marked_voted : ((i x : ℕ) → Targets (cast i) x → T (g.used x)) → Voted (with_vote cast j t) (mark up t j g).used
    unfolding mark
    marked_voted targets = record { target_used = λ i x p. go i x p (ℕ_discrete i j) }
      where
        go : (i x : ℕ) → Targets (with_vote cast j t i) x → Dec (i ≡ j) → T (g.used x)
        go i x p (yes e) =
            subst (λ (z : ℕ). T (g.used z)) (targeted (with_vote cast j t i) (ap (λ (b : Bool). cond b (once t) (cast i)) (eq-eqb i j e)) x p) here
        go i x p (no n) = targets i x (subst (λ (v : Vote). Targets v x) (ap (λ (b : Bool). cond b (once t) (cast i)) (ne_eqb i j n)) p)

  -- a first vote of bit j for t keeps the shape
  module _ (g : Graph) (shape : Shape up ids base count cast g) (j : ℕ) (few : j < VOTES) (quiet : cast j ≡ silent) where
    keeps_there : T (g.used t) → Shape up ids base count (with_vote cast j t) (mark up t j g)
    unfolding mark
    keeps_there u =
        record {
          nodes = shape.nodes;
          rows = marked_rows g j few quiet shape.nodes shape.rows u;
          voted = marked_voted g j few quiet shape.nodes shape.rows u shape.voted.target_used;
        }

    keeps_new : T (not (g.used t)) → ((y : ℕ) → T (g.used y) → ids y ≢ ids t)
        → Shape up ids base count (with_vote cast j t) (mark up t j (add_node up ids t g))
    unfolding mark
    keeps_new u apart =
        record {
          nodes = added;
          rows = marked_rows g' j few quiet added rows here;
          voted = marked_voted g' j few quiet added rows here (λ i x p. was_used x (shape.voted.target_used i x p));
        }
      where
        g' : Graph
        g' = add_node up ids t g

        added : Nodes up ids base count (add_node up ids t g).used (add_node up ids t g).order (add_node up ids t g).heads
        added = added_nodes up ids falls base count g shape.nodes t in_base in_table u apart

        rows : Bits up cast (add_node up ids t g).used (add_node up ids t g).bits
        rows = added_rows g shape u

        here : T ((add_node up ids t g).used t)
        here = unfold add_node in in_right (g.used t) (eqb t t) (eqb_refl t)

        was_used : (x : ℕ) → T (g.used x) → T ((add_node up ids t g).used x)
        was_used x v = unfold add_node in in_left (g.used x) (eqb x t) v

    pub insert_keeps : ((y : ℕ) → T (g.used y) → y ≢ t → ids y ≢ ids t) → Shape up ids base count (with_vote cast j t) (insert up ids t j g)
    unfolding insert
    insert_keeps apart =
        by_test (λ (h : Graph). Shape up ids base count (with_vote cast j t) (mark up t j h)) (g.used t) g (add_node up ids t g)
        keeps_there
        (λ u. keeps_new u (λ y v. apart y v (λ e. T_not (g.used t) u (subst (λ (z : ℕ). T (g.used z)) e v))))

-- a second vote changes neither a first target nor a node
pub shape_same : (up ids : ℕ → ℕ) (base count : ℕ) (cast cast' : ℕ → Vote) (g : Graph)
    → ((i x : ℕ) → lands up x (cast i) ≡ lands up x (cast' i))
    → ((i x : ℕ) → Targets (cast' i) x → Targets (cast i) x)
    → Shape up ids base count cast g → Shape up ids base count cast' g
shape_same up ids base count cast cast' g same fro shape =
    record {
      nodes = shape.nodes;
      rows = record { words = shape.rows.words; told = λ x u j. shape.rows.told x u j ∙ same j x };
      voted = record { target_used = λ i x p. shape.voted.target_used i x (fro i x p) };
    }

-- the nodes stay the base and the targets of first votes: after a first vote of bit j for t, after a second
module _ (base : ℕ) (cast : ℕ → Vote) (g : Graph) (only : UsedOnly base cast g.used) where
  pub only_inserted : (up ids : ℕ → ℕ) (t j : ℕ) → cast j ≡ silent → UsedOnly base (with_vote cast j t) (insert up ids t j g).used
  only_inserted up ids t j quiet x u n = found (ℕ_discrete x t)
    where
      old : T ((insert up ids t j g).used x) → x ≢ t → T (g.used x)
      old v m = unfold insert in unfold mark in
          by_test (λ (h : Graph). T (h.used x) → T (g.used x)) (g.used t) g (add_node up ids t g) (λ e w. w)
          (λ e w. unfold add_node in ⊎_elim (λ z. z) (λ z. absurd (m (eqb→eq x t z))) (either (g.used x) (eqb x t) w)) v

      loud : (i : ℕ) → i ≡ j → Targets (cast i) x → ⊥
      loud i e p = subst (λ (v : Vote). Targets v x) (ap cast e ∙ quiet) p

      found : Dec (x ≡ t) → (i : ℕ) × Targets (with_vote cast j t i) x
      found (yes e) = (j, subst (λ (v : Vote). Targets v x) (sym (ap (λ (b : Bool). cond b (once t) (cast j)) (eq-eqb j j refl))) (sym e))
      found (no m) =
          let r = only x (old u m) n in
          (r.0, subst (λ (v : Vote). Targets v x) (sym (ap (λ (b : Bool). cond b (once t) (cast r.0)) (ne_eqb r.0 j (λ e. loud r.0 e r.1)))) r.1)

  pub only_same : (cast' : ℕ → Vote) → ((i x : ℕ) → Targets (cast i) x → Targets (cast' i) x) → UsedOnly base cast' g.used
  only_same cast' to x u n = let r = only x u n in (r.0, to r.0 x r.1)
