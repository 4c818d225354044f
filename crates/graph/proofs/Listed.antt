-- The one listing gives each node the list of children that the Rust keeps: a new node gets the members that the search
-- met, in that order; they leave the node above, which gets the new node last; every other list stays.
use mathlib.Core.Bool.{Bool, true, false, cond, not, ◌&&◌, ◌||◌}
use mathlib.Core.List.{List, [], ◌∷◌, ◌++◌, append-nil}
use mathlib.Core.Path.{◌≡◌, refl, sym, ap, ap₂, subst, ◌∙◌}
use mathlib.Core.Logic.{◌≢◌, ◌⊎◌, inl, inr, ⊎_elim}
use Prim.Native.Nat.{ℕ, pred, ◌+◌, ◌≤◌, ◌<◌}
use native.Mathlib.Decide.{ℕ_discrete}
use native.Mathlib.Omega.{arith}
use lib.Dec.{T, eqb, eqb→eq, eqb_refl, T_not}
use borrow.Author.Tests.{eq-eqb, ne_eqb}
use Rattle.loops.specs.Listing.{times, keep}
use Rattle.loops.proofs.Tests.{either, in_left, in_right}
use Rattle.loops.proofs.Listings.{times_here, times_past, times_none, keep_append, keep_cong, keep_none, keep_every, keep_swap, kept_in}
use Rattle.grandpa.specs.Tree.{below}
use Rattle.grandpa.proofs.Trees.{below_refl, below_up, below_trans, below_le, below_antisym, below_line, below_step}
use Rattle.graph.specs.Search.{containing, nearest}
use Rattle.graph.specs.Graph.{Graph, relist, add_node, children}
use Rattle.graph.specs.Shape.{Holds, Nodes}
use Rattle.graph.proofs.Climbs.{Nearest, nearest_says, holds_past}
use Rattle.graph.proofs.Found.{containing_only, containing_has}

pub nearest_unique : (up : ℕ → ℕ) (falls : (k : ℕ) → up k ≤ pred k) (used : ℕ → Bool) (at x y : ℕ)
    → Nearest up falls used at x → Nearest up falls used at y → x ≡ y
nearest_unique up falls used at x y p q =
    below_antisym up falls x y (q.first x p.is_node p.above) (p.first y q.is_node q.above)

module _ (up ids : ℕ → ℕ) (falls : (k : ℕ) → up k ≤ pred k) (base count : ℕ) (g : Graph)
    (nodes : Nodes up ids base count g.used g.order g.heads) (t : ℕ) (in_base : T (below up base t)) (in_table : t < count) (bare : T (not (g.used t))) where
  abbrev used' : ℕ → Bool
  used' x = g.used x || eqb x t

  abbrev ms : List ℕ
  ms = containing up g.used g.heads t

  not_new : (x : ℕ) → T (g.used x) → x ≢ t
  not_new x u e = T_not (g.used t) bare (subst (λ (z : ℕ). T (g.used z)) e u)

  old : (x : ℕ) → T (g.used x) → T (used' x)
  old x u = in_left (g.used x) (eqb x t) u

  by_age : (P : Type 0) (y : ℕ) → T (used' y) → (T (g.used y) → P) → (y ≡ t → P) → P
  by_age P y u f h = ⊎_elim f (λ e. h (eqb→eq y t e)) (either (g.used y) (eqb y t) u)

  base_used' : T (used' base)
  base_used' = old base nodes.base_used

  -- a node other than the base has the base above its parent
  parent_inside : (n : ℕ) → T (g.used n) → n ≢ base → T (below up base (up n))
  parent_inside n u d = below_step up falls base n (nodes.inside n u) (λ e. d (sym e))

  -- the nearest node above: of a member it is t, of every other node what it was
  pub near_member : (m : ℕ) → Holds up g.used t m → nearest up used' (up m) ≡ t
  near_member m p =
      nearest_unique up falls used' (up m) (nearest up used' (up m)) t
      (nearest_says up falls used' base base_used' (up m) (below_trans up falls base t (up m) in_base to_parent))
      (record {
        is_node = in_right (g.used t) (eqb t t) (eqb_refl t);
        above = to_parent;
        first = λ y u l. by_age _ y u (λ v. was y v l) (λ e. subst (λ (z : ℕ). T (below up z t)) (sym e) (below_refl up falls t));
      })
    where
      to_parent : T (below up t (up m))
      to_parent = below_step up falls t m p.under (λ e. not_new m p.is_node (sym e))

      was : (y : ℕ) → T (g.used y) → T (below up y (up m)) → T (below up y t)
      was y v l = go (below_line up falls y t (up m) l to_parent)
        where
          go : T (below up y t) ⊎ T (below up t y) → T (below up y t)
          go (inl i) = i
          go (inr i) =
              let e : y ≡ m = p.alone y v i (below_trans up falls y (up m) m l (below_up up falls m)) in
              absurd (omega (arith, below_le up falls y (up m) l, falls m, holds_past up falls g.used t m bare p))

  pub near_other : (n : ℕ) → T (g.used n) → n ≢ base → (Holds up g.used t n → ⊥) → nearest up used' (up n) ≡ nearest up g.used (up n)
  near_other n u d apart =
      nearest_unique up falls used' (up n) (nearest up used' (up n)) (nearest up g.used (up n))
      (nearest_says up falls used' base base_used' (up n) (parent_inside n u d))
      (record {
        is_node = old (nearest up g.used (up n)) near.is_node;
        above = near.above;
        first = λ y v l. by_age _ y v (λ w. near.first y w l) (λ e. new y e l);
      })
    where
      near : Nearest up falls g.used (up n) (nearest up g.used (up n))
      near = nearest_says up falls g.used base nodes.base_used (up n) (parent_inside n u d)

      new : (y : ℕ) → y ≡ t → T (below up y (up n)) → T (below up y (nearest up g.used (up n)))
      new y e l = go (below_line up falls y (nearest up g.used (up n)) (up n) l near.above)
        where
          go : T (below up y (nearest up g.used (up n))) ⊎ T (below up (nearest up g.used (up n)) y) → T (below up y (nearest up g.used (up n)))
          go (inl i) = i
          go (inr i) = absurd (apart (record {
            is_node = u;
            under = subst (λ (z : ℕ). T (below up z n)) e (below_trans up falls y (up n) n l (below_up up falls n));
            alone = λ z v j k. last z v j k (ℕ_discrete z n);
          }))
            where
              last : (z : ℕ) → T (g.used z) → T (below up t z) → T (below up z n) → Dec (z ≡ n) → z ≡ n
              last z v j k (yes q) = q
              last z v j k (no q) =
                  let up_to_lem = near.first z v (below_step up falls z n k q) in
                  let r : t ≡ z = below_antisym up falls t z j
                  (below_trans up falls z (nearest up g.used (up n)) t up_to_lem (subst (λ (w : ℕ). T (below up (nearest up g.used (up n)) w)) e i)) in
                  absurd (not_new z v (sym r))

  strictly : t ≢ base
  strictly e = not_new base nodes.base_used (sym e)

  pub near_new : nearest up used' (up t) ≡ nearest up g.used (up t)
  near_new =
      nearest_unique up falls used' (up t) (nearest up used' (up t)) (nearest up g.used (up t))
      (nearest_says up falls used' base base_used' (up t) inside)
      (record {
        is_node = old (nearest up g.used (up t)) near.is_node;
        above = near.above;
        first = λ y v l. by_age _ y v (λ w. near.first y w l) (λ e. absurd (omega (arith, below_le up falls y (up t) l, falls t, below_le up falls base t in_base, strictly)));
      })
    where
      inside : T (below up base (up t))
      inside = below_step up falls base t in_base (λ e. strictly (sym e))

      near : Nearest up falls g.used (up t) (nearest up g.used (up t))
      near = nearest_says up falls g.used base nodes.base_used (up t) (below_step up falls base t in_base (λ e. strictly (sym e)))

  -- who is a member
  member : (n : ℕ) → 0 < times n ms → Holds up g.used t n
  member = containing_only up ids falls base count g.used g.order g.heads nodes t bare

  no_member : (n : ℕ) → times n ms ≡ 0 → Holds up g.used t n → ⊥
  no_member n e p = omega (arith, containing_has up ids falls base count g.used g.order g.heads nodes t bare n p)

  stays : (n : ℕ) → 0 < times n (keep (λ x. eqb (times x ms) 0) g.order) → nearest up used' (up n) ≡ nearest up g.used (up n)
  stays n h =
      let k = kept_in (λ x. eqb (times x ms) 0) n g.order h in
      let r = nodes.list_only n k.0 in
      near_other n r.0 r.1 (no_member n (eqb→eq (times n ms) 0 k.1))

  pub children_new : children up (add_node up ids t g) t ≡ ms
  unfolding children add_node relist
  children_new =
      keep_append under stayed (ms ++ (t ∷ []))
      ∙ ap₂ ◌++◌ (keep_none under stayed (λ n h. ne_eqb _ t (λ e. old_above n h (sym (stays n h) ∙ e))))
      (keep_append under ms (t ∷ []) ∙ ap₂ ◌++◌ (keep_every under ms (λ n h. eq-eqb _ t (near_member n (member n h))))
      (keep_none under (t ∷ []) (λ n h. ne_eqb _ t (λ e. new_above n h e))))
      ∙ append-nil ms
    where
      under : ℕ → Bool
      under n = eqb (nearest up used' (up n)) t

      stayed : List ℕ
      stayed = keep (λ x. eqb (times x ms) 0) g.order

      old_above : (n : ℕ) → 0 < times n (keep (λ x. eqb (times x ms) 0) g.order) → nearest up g.used (up n) ≢ t
      old_above n h =
          let r = nodes.list_only n (kept_in (λ x. eqb (times x ms) 0) n g.order h).0 in
          not_new _ (nearest_says up falls g.used base nodes.base_used (up n) (parent_inside n r.0 r.1)).is_node

      new_above : (n : ℕ) → 0 < times n (t ∷ []) → nearest up used' (up n) ≡ t → ⊥
      new_above n h e = go (ℕ_discrete t n)
        where
          go : Dec (t ≡ n) → ⊥
          go (yes q) =
              not_new _ (nearest_says up falls g.used base nodes.base_used (up t) (below_step up falls base t in_base (λ z. strictly (sym z)))).is_node
              (sym near_new ∙ ap (λ (z : ℕ). nearest up used' (up z)) q ∙ e)
          go (no q) = omega (arith, times_past n t [] q, times_none n)

  pub children_old : (x : ℕ) → x ≢ t
      → children up (add_node up ids t g) x
      ≡ keep (λ n. eqb (times n ms) 0) (children up g x) ++ cond (eqb (nearest up g.used (up t)) x) (t ∷ []) []
  unfolding children add_node relist
  children_old x d =
      keep_append under (keep out g.order) (ms ++ (t ∷ []))
      ∙ ap₂ ◌++◌
      (keep_cong under before (keep out g.order) (λ n h. ap (λ (z : ℕ). eqb z x) (stays n h)) ∙ keep_swap before out g.order)
      (keep_append under ms (t ∷ [])
      ∙ ap₂ ◌++◌ (keep_none under ms (λ n h. ne_eqb _ x (λ e. d (sym e ∙ near_member n (member n h)))))
      (last (eqb (nearest up g.used (up t)) x) (ap (λ (z : ℕ). eqb z x) near_new)))
    where
      out : ℕ → Bool
      out n = eqb (times n ms) 0

      under : ℕ → Bool
      under n = eqb (nearest up used' (up n)) x

      before : ℕ → Bool
      before n = eqb (nearest up g.used (up n)) x

      last : (b : Bool) → eqb (nearest up used' (up t)) x ≡ b → keep under (t ∷ []) ≡ cond b (t ∷ []) []
      last b e = unfold keep in rw e
