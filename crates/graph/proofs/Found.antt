-- `containing` has exactly the nodes whose edge holds the block, each once.
use mathlib.Core.Bool.{Bool, true, false, cond, not, ◌&&◌}
use mathlib.Core.List.{List, [], ◌∷◌, ◌++◌}
use mathlib.Core.Path.{◌≡◌, refl, sym, ap, subst, ◌∙◌}
use mathlib.Core.Logic.{◌≢◌, ◌⊎◌, inl, inr, ⊎_elim}
use Prim.Native.Nat.{ℕ, zero, suc, pred, ◌+◌, ◌-◌, ◌≤◌, ◌<◌}
use native.Mathlib.Decide.{ℕ_discrete}
use native.Mathlib.Omega.{arith}
use lib.Dec.{T, eqb, eqb→eq, eqb_refl, T_not, not_T}
use borrow.Author.Tests.{eq-eqb, ne_eqb}
use Rattle.loops.specs.Listing.{times, fold, some_of}
use Rattle.loops.proofs.Tests.{by_test, dec_T, both, left_of, right_of}
use Rattle.loops.proofs.Listings.{times_end, times_not_end, times_here, times_more, times_past, times_none, some_at, some_intro}
use Rattle.grandpa.specs.Tree.{below}
use Rattle.grandpa.proofs.Trees.{below_refl, below_trans, below_le, below_antisym, below_line}
use Rattle.graph.specs.Search.{hold, note, containing}
use Rattle.graph.specs.Shape.{Holds, Tip, Nodes}
use Rattle.graph.proofs.Climbs.{Told, hold_says, holds_same, holds_past}

-- noting a place: it is there once, and nothing else comes
module _ (y : ℕ) (l : List ℕ) where
  note_grows : (x : ℕ) → times x l ≤ times x (note y l)
  unfolding note
  note_grows x =
      by_test (λ (m : List ℕ). times x l ≤ times x m) (eqb y 0) l _ (λ e. omega arith)
      (λ e. by_test (λ (m : List ℕ). times x l ≤ times x m) (eqb (times y l) 0) (l ++ (y ∷ [])) l (λ f. go (ℕ_discrete y x)) (λ f. omega arith))
    where
      go : Dec (y ≡ x) → times x l ≤ times x (l ++ (y ∷ []))
      go (yes e) = rw e (omega (arith, times_end x l))
      go (no n) = omega (arith, times_not_end x y l n)

  note_only : (x : ℕ) → 0 < times x (note y l) → (0 < times x l) ⊎ ((x ≡ y) × (y ≢ 0))
  unfolding note
  note_only x =
      by_test (λ (m : List ℕ). 0 < times x m → (0 < times x l) ⊎ ((x ≡ y) × (y ≢ 0))) (eqb y 0) l _ (λ e h. inl h)
      (λ e. by_test (λ (m : List ℕ). 0 < times x m → (0 < times x l) ⊎ ((x ≡ y) × (y ≢ 0))) (eqb (times y l) 0) (l ++ (y ∷ [])) l
      (λ f h. go e h (ℕ_discrete y x)) (λ f h. inl h))
    where
      go : T (not (eqb y 0)) → 0 < times x (l ++ (y ∷ [])) → Dec (y ≡ x) → (0 < times x l) ⊎ ((x ≡ y) × (y ≢ 0))
      go t h (yes e) = inr (sym e, λ z. T_not (eqb y 0) t (subst (λ (k : ℕ). T (eqb y k)) z (eqb_refl y)))
      go t h (no n) = inl (omega (arith, times_not_end x y l n))

  note_once : (x : ℕ) → times x l ≤ 1 → times x (note y l) ≤ 1
  unfolding note
  note_once x h =
      by_test (λ (m : List ℕ). times x m ≤ 1) (eqb y 0) l _ (λ e. h)
      (λ e. by_test (λ (m : List ℕ). times x m ≤ 1) (eqb (times y l) 0) (l ++ (y ∷ [])) l (λ f. go f (ℕ_discrete y x)) (λ f. h))
    where
      go : T (eqb (times y l) 0) → Dec (y ≡ x) → times x (l ++ (y ∷ [])) ≤ 1
      go f (yes e) = let z : times x l ≡ 0 = subst (λ (k : ℕ). times k l ≡ 0) e (eqb→eq _ _ f) in rw e (omega (arith, times_end x l))
      go f (no n) = omega (arith, times_not_end x y l n)

  note_has : y ≢ 0 → 0 < times y (note y l)
  unfolding note
  note_has n =
      rw (ne_eqb y 0 n)
      (by_test (λ (m : List ℕ). 0 < times y m) (eqb (times y l) 0) (l ++ (y ∷ [])) l (λ f. omega (arith, times_end y l))
      (λ f. omega (arith, nonzero (times y l) f)))
    where
      nonzero : (k : ℕ) → T (not (eqb k 0)) → k ≢ 0
      nonzero k t e = T_not (eqb k 0) t (subst (λ (z : ℕ). T (eqb k z)) e (eqb_refl k))

-- what a run over heads has noted
module _ (f : ℕ → ℕ) where
  abbrev noted : List ℕ → List ℕ → List ℕ
  noted hs l = fold (λ h l. note (f h) l) hs l

  noted_grows : (hs l : List ℕ) (x : ℕ) → times x l ≤ times x (noted hs l)
  unfolding fold
  noted_grows [] l x = omega arith
  noted_grows (h ∷ hs) l x = omega (arith, note_grows (f h) l x, noted_grows hs (note (f h) l) x)

  noted_once : (hs l : List ℕ) (x : ℕ) → times x l ≤ 1 → times x (noted hs l) ≤ 1
  unfolding fold
  noted_once [] l x h = h
  noted_once (y ∷ hs) l x h = noted_once hs (note (f y) l) x (note_once (f y) l x h)

  noted_only : (hs l : List ℕ) (x : ℕ) → 0 < times x (noted hs l)
      → (0 < times x l) ⊎ ((h : ℕ) × (0 < times h hs) × (x ≡ f h) × (f h ≢ 0))
  unfolding fold
  noted_only [] l x h = inl h
  noted_only (y ∷ hs) l x h = go (noted_only hs (note (f y) l) x h)
    where
      go : (0 < times x (note (f y) l)) ⊎ ((h : ℕ) × (0 < times h hs) × (x ≡ f h) × (f h ≢ 0))
          → (0 < times x l) ⊎ ((h : ℕ) × (0 < times h (y ∷ hs)) × (x ≡ f h) × (f h ≢ 0))
      go (inl m) = ⊎_elim (λ i. inl i) (λ i. inr (y, omega (arith, times_here y hs), i.0, i.1)) (note_only (f y) l x m)
      go (inr m) = inr (m.0, times_more m.0 y hs m.1, m.2, m.3)

  noted_has : (hs l : List ℕ) (h : ℕ) → 0 < times h hs → f h ≢ 0 → 0 < times (f h) (noted hs l)
  unfolding fold
  noted_has [] l h m n = absurd (omega (arith, times_none h))
  noted_has (y ∷ hs) l h m n = go (ℕ_discrete y h) (noted_has hs (note (f y) l) h)
    where
      go : Dec (y ≡ h) → (0 < times h hs → f h ≢ 0 → 0 < times (f h) (noted hs (note (f y) l))) → 0 < times (f h) (noted hs (note (f y) l))
      go (yes e) r =
          omega (
            arith,
            noted_grows hs (note (f y) l) (f h),
            subst (λ (z : ℕ). 0 < times (f z) (note (f y) l)) e
                (note_has (f y) l (λ z. n (ap f (sym e) ∙ z))),
          )
      go (no d) r = r (omega (arith, times_past h y hs d)) n

module _ (up ids : ℕ → ℕ) (falls : (k : ℕ) → up k ≤ pred k) (base count : ℕ) (used : ℕ → Bool) (order heads : List ℕ)
    (nodes : Nodes up ids base count used order heads) where
  -- below every node is a head
  below_tip : (f x : ℕ) → count ≤ x + f → T (used x) → (t : ℕ) × (0 < times t heads) × T (below up x t)
  below_tip zero x h u = absurd (omega (arith, nodes.tabled x u))
  below_tip (suc f) x h u = go (dec_T (some_of lower order))
      (λ y v m n.
      let r = below_tip f y (omega (arith, below_le up falls x y m)) v in
      (r.0, r.1, below_trans up falls x y r.0 m r.2))
    where
      lower : ℕ → Bool
      lower y = below up x y && not (eqb y x)

      tip : (T (some_of lower order) → ⊥) → (y : ℕ) → T (used y) → T (below up x y) → y ≡ x
      tip none y v m = pick (ℕ_discrete y x)
        where
          pick : Dec (y ≡ x) → y ≡ x
          pick (yes e) = e
          pick (no n) =
              absurd (none (some_intro lower order y
              (omega (arith, nodes.listed y v (λ e. n (below_antisym up falls y x (subst (λ (z : ℕ). T (below up z x)) (sym e) (nodes.inside x u)) m))))
              (both (below up x y) _ m (not_T (eqb y x) (λ t. n (eqb→eq y x t))))))

      go : Dec (T (some_of lower order))
          → ((y : ℕ) → T (used y) → T (below up x y) → x ≢ y → (t : ℕ) × (0 < times t heads) × T (below up x t))
          → (t : ℕ) × (0 < times t heads) × T (below up x t)
      go (yes s) r =
          let y = some_at lower order s in
          let m = left_of (below up x y.0) _ y.2 in
          let n = right_of (below up x y.0) _ y.2 in
          r y.0 (nodes.list_only y.0 y.1).0 m
          (λ e. T_not (eqb y.0 x) n (subst (λ (z : ℕ). T (eqb y.0 z)) (sym e) (eqb_refl y.0)))
      go (no s) r = (x, omega (arith, nodes.headed x u (tip s)), below_refl up falls x)

  pub tip_below : (x : ℕ) → T (used x) → (t : ℕ) × (0 < times t heads) × T (below up x t)
  tip_below x u = below_tip count x (omega arith) u

  -- of a block with no node
  module _ (b : ℕ) (bare : T (not (used b))) where
    pub containing_once : (x : ℕ) → times x (containing up used heads b) ≤ 1
    unfolding containing
    containing_once x = noted_once (hold up used b) heads [] x (omega (arith, times_none x))

    pub containing_only : (x : ℕ) → 0 < times x (containing up used heads b) → Holds up used b x
    unfolding containing
    containing_only x h = ⊎_elim (λ m. absurd (omega (arith, times_none x))) found (noted_only (hold up used b) heads [] x h)
      where
        found : (t : ℕ) × (0 < times t heads) × (x ≡ hold up used b t) × (hold up used b t ≢ 0) → Holds up used b x
        found r = go (dec_T (below up b r.0))
          where
            told : Told up falls used b r.0 bare (hold up used b r.0)
            told = hold_says up falls used b r.0 bare (nodes.head_only r.0 r.1).0

            go : Dec (T (below up b r.0)) → Holds up used b x
            go (yes l) = subst (Holds up used b) (sym r.2) (told.on l).0
            go (no l) = absurd (r.3 (told.off l))

    -- every node below b is reached by a node whose edge holds b
    pub containing_over : (y : ℕ) → T (used y) → T (below up b y)
        → (x : ℕ) × (0 < times x (containing up used heads b)) × Holds up used b x × T (below up x y)
    unfolding containing
    containing_over y u l =
        let t = tip_below y u in
        let m = below_trans up falls b y t.0 l t.2 in
        let told = (hold_says up falls used b t.0 bare (nodes.head_only t.0 t.1).0).on m in
        let past = holds_past up falls used b (hold up used b t.0) bare told.0 in
        (hold up used b t.0, noted_has (hold up used b) heads [] t.0 t.1 (λ e. omega arith), told.0, over t.0 told t.2)
      where
        over : (t : ℕ) → Holds up used b (hold up used b t) × T (below up (hold up used b t) t) → T (below up y t) → T (below up (hold up used b t) y)
        over t p m = go (below_line up falls (hold up used b t) y t p.1 m)
          where
            go : T (below up (hold up used b t) y) ⊎ T (below up y (hold up used b t)) → T (below up (hold up used b t) y)
            go (inl i) = i
            go (inr i) = subst (λ (z : ℕ). T (below up z y)) (p.0.alone y u l i) (below_refl up falls y)

    pub containing_has : (x : ℕ) → Holds up used b x → times x (containing up used heads b) ≡ 1
    containing_has x p =
        let r = containing_over x p.is_node p.under in
        let e : r.0 ≡ x = holds_same up falls used b r.0 x x r.2 p r.3 (below_refl up falls x) in
        omega (arith, containing_once x, subst (λ (z : ℕ). 0 < times z (containing up used heads b)) e r.1)
