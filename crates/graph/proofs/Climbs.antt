-- What a climb from a node finds: the node whose edge holds a block, and the nearest node.
use mathlib.Core.Bool.{Bool, true, false, cond, not}
use mathlib.Core.Path.{◌≡◌, refl, sym, ap, subst, ◌∙◌}
use mathlib.Core.Logic.{◌≢◌, ◌⊎◌, inl, inr, ⊎_elim}
use Prim.Native.Nat.{ℕ, zero, suc, pred, ◌+◌, ◌≤◌, ◌<◌}
use native.Mathlib.Decide.{ℕ_discrete}
use native.Mathlib.Omega.{arith}
use lib.Dec.{T, leb, eqb, leb→le, nleb→lt, eqb→eq, eqb_refl, T_not}
use borrow.Author.Tests.{eq-eqb, le-leb, lt-leb, ne_eqb}
use Rattle.loops.proofs.Tests.{by_test, dec_T}
use Rattle.grandpa.specs.Tree.{below}
use Rattle.grandpa.proofs.Trees.{below_refl, below_up, below_trans, below_le, below_antisym, below_line, below_step}
use Rattle.graph.specs.Search.{hold_from, lead, hold, until, nearest}
use Rattle.graph.specs.Shape.{Holds}

-- a climb takes as many steps as its place at most
module _ (up : ℕ → ℕ) (falls : (k : ℕ) → up k ≤ pred k) (stop : ℕ → Bool) where
  until_stays : (f at : ℕ) → at ≤ 0 → until up stop f at ≡ at
  unfolding until
  until_stays zero at h = refl
  until_stays (suc f) at h = go (stop at) (until_stays f (up at) (omega (arith, falls at)))
    where
      go : (b : Bool) → until up stop f (up at) ≡ up at → cond b at (until up stop f (up at)) ≡ at
      go true r = refl
      go false r = omega (arith, r, falls at)

  until_fuel : (f g at : ℕ) → at ≤ f → at ≤ g → until up stop f at ≡ until up stop g at
  unfolding until
  until_fuel zero g at h k = sym (until_stays g at h)
  until_fuel (suc f) zero at h k = until_stays (suc f) at k
  until_fuel (suc f) (suc g) at h k =
      ap (λ (r : ℕ). cond (stop at) at r) (until_fuel f g (up at) (omega (arith, falls at)) (omega (arith, falls at)))

  -- the turns of a climb
  pub until_here : (at : ℕ) → stop at ≡ true → until up stop at at ≡ at
  unfolding until
  until_here zero e = refl
  until_here (suc at) e = rw e

  pub until_next : (at : ℕ) → 0 < at → stop at ≡ false → until up stop at at ≡ until up stop (up at) (up at)
  unfolding until
  until_next zero h e = absurd (omega arith)
  until_next (suc at) h e = rw e (until_fuel at (up (suc at)) (up (suc at)) (omega (arith, falls (suc at))) (omega arith))

  pub until_root : until up stop 0 0 ≡ 0
  unfolding until
  until_root = refl

module _ (up : ℕ → ℕ) (falls : (k : ℕ) → up k ≤ pred k) (used : ℕ → Bool) where
  -- of two nodes on one line whose edges hold b there is one
  pub holds_same : (b x y z : ℕ) → Holds up used b x → Holds up used b y → T (below up x z) → T (below up y z) → x ≡ y
  holds_same b x y z p q l m = go (below_line up falls x y z l m)
    where
      go : T (below up x y) ⊎ T (below up y x) → x ≡ y
      go (inl h) = q.alone x p.is_node p.under h
      go (inr h) = sym (p.alone y q.is_node q.under h)

  module _ (b h : ℕ) (bare : T (not (used b))) where
    -- what the climb from h ends with
    pub record Told (r : ℕ) : Type 0 where
      pub on : T (below up b h) → Holds up used b r × T (below up r h)
      pub off : (T (below up b h) → ⊥) → r ≡ 0

    -- the climb stands at `at`, having met `last`: no node strictly between the two, and b, where it is above h, is not passed
    pub record Way (at last : ℕ) : Type 0 where
      pub is_node : T (used last)
      pub above : T (below up at last)
      pub from : T (below up last h)
      pub between : (y : ℕ) → T (used y) → T (below up at y) → T (below up y last) → (y ≡ last) ⊎ (y ≡ at)
      pub ahead : T (below up b h) → T (below up b at)

    pub way_start : T (used h) → Way h h
    way_start u =
        record {
          is_node = u;
          above = below_refl up falls h;
          from = below_refl up falls h;
          between = λ y v l m. inl (below_antisym up falls y h m l);
          ahead = λ t. t;
        }

    on_step : {at last : ℕ} → Way at last → b < at → T (below up b h) → T (below up b (up at))
    on_step {at} w l t = below_step up falls b at (w.ahead t) (λ e. omega arith)

    pub way_node : (at last : ℕ) → Way at last → b < at → T (used at) → Way (up at) at
    way_node at last w l u =
        record {
          is_node = u;
          above = below_up up falls at;
          from = below_trans up falls at last h w.above w.from;
          between = λ y v m k. go y m k (ℕ_discrete y at);
          ahead = on_step w l;
        }
      where
        go : (y : ℕ) → T (below up (up at) y) → T (below up y at) → Dec (y ≡ at) → (y ≡ at) ⊎ (y ≡ up at)
        go y m k (yes e) = inl e
        go y m k (no n) = inr (below_antisym up falls y (up at) (below_step up falls y at k n) m)

    pub way_bare : (at last : ℕ) → Way at last → b < at → T (not (used at)) → Way (up at) last
    way_bare at last w l u =
        record {
          is_node = w.is_node;
          above = below_trans up falls (up at) at last (below_up up falls at) w.above;
          from = w.from;
          between = λ y v m k. go y v m k (below_line up falls at y last w.above k);
          ahead = on_step w l;
        }
      where
        other : (y : ℕ) → T (used y) → y ≢ at
        other y v e = T_not (used at) u (subst (λ (z : ℕ). T (used z)) e v)

        go : (y : ℕ) → T (used y) → T (below up (up at) y) → T (below up y last) → T (below up at y) ⊎ T (below up y at) → (y ≡ last) ⊎ (y ≡ up at)
        go y v m k (inl i) = ⊎_elim (λ e. inl e) (λ e. absurd (other y v e)) (w.between y v i k)
        go y v m k (inr i) = inr (below_antisym up falls y (up at) (below_step up falls y at i (other y v)) m)

    pub way_here : (last : ℕ) → Way b last → Told last
    way_here last w =
        record {
          on = λ t. (
            record {
              is_node = w.is_node;
              under = w.above;
              alone = λ y v l m. ⊎_elim (λ e. e) (λ e. absurd (T_not (used b) bare (subst (λ (z : ℕ). T (used z)) e v))) (w.between y v l m);
            },
            w.from,
          );
          off = λ n. absurd (n (below_trans up falls b last h w.above w.from));
        }

    pub way_off : (at last : ℕ) → Way at last → at < b → Told 0
    way_off at last w l = record { on = λ t. absurd (omega (arith, below_le up falls b at (w.ahead t))); off = λ n. refl }

    climbed : (f at last : ℕ) → at < f → Way at last → Told (hold_from up used b f at last)
    unfolding hold_from
    climbed zero at last h w = absurd (omega arith)
    climbed (suc f) at last h w =
        by_test Told (leb at b) _ _
        (λ l. by_test Told (eqb at b) last 0
        (λ e. way_here last (subst (λ (x : ℕ). Way x last) (eqb→eq at b e) w))
        (λ e. way_off at last w (omega (arith, leb→le at b l, differs at b e))))
        (λ l. next (climbed f) (nleb→lt at b l) (used at) refl)
      where
        differs : (x y : ℕ) → T (not (eqb x y)) → x ≢ y
        differs x y t e = T_not (eqb x y) t (subst (λ (z : ℕ). T (eqb x z)) e (eqb_refl x))

        next : ((x y : ℕ) → x < f → Way x y → Told (hold_from up used b f x y)) → b < at
            → (z : Bool) → used at ≡ z → Told (hold_from up used b f (up at) (cond z at last))
        next r l true e = r (up at) at (omega (arith, falls at)) (way_node at last w l (subst T (sym e) tt))
        next r l false e = r (up at) last (omega (arith, falls at)) (way_bare at last w l (subst (λ (y : Bool). T (not y)) (sym e) tt))

    pub hold_says : T (used h) → Told (hold up used b h)
    unfolding hold lead
    hold_says u = climbed (suc h) h h (omega arith) (way_start u)

  -- a node that holds a bare block is strictly below it, so it is not place 0
  pub holds_past : (b x : ℕ) → T (not (used b)) → Holds up used b x → b < x
  holds_past b x bare p = go (ℕ_discrete b x)
    where
      go : Dec (b ≡ x) → b < x
      go (yes e) = absurd (T_not (used b) bare (subst (λ (z : ℕ). T (used z)) (sym e) p.is_node))
      go (no n) = omega (arith, below_le up falls b x p.under)

  -- the nearest node at or above a block: every node above the block is above it or it
  pub record Nearest (at x : ℕ) : Type 0 where
    pub is_node : T (used x)
    pub above : T (below up x at)
    pub first : (y : ℕ) → T (used y) → T (below up y at) → T (below up y x)

  module _ (base : ℕ) (base_used : T (used base)) where
    near : (f at : ℕ) → at ≤ f → T (below up base at) → Nearest at (until up used f at)
    unfolding until
    near zero at h l =
        let e : base ≡ at = omega (arith, below_le up falls base at l) in
        record { is_node = subst (λ (x : ℕ). T (used x)) e base_used; above = below_refl up falls at; first = λ y v m. m }
    near (suc f) at h l =
        by_test (Nearest at) (used at) at (until up used f (up at))
        (λ u. record { is_node = u; above = below_refl up falls at; first = λ y v m. m })
        (λ u.
        let r = near f (up at) (omega (arith, falls at)) (below_step up falls base at l (other u base base_used)) in
        record {
          is_node = r.is_node;
          above = below_trans up falls _ (up at) at r.above (below_up up falls at);
          first = λ y v m. r.first y v (below_step up falls y at m (other u y v));
        })
      where
        other : T (not (used at)) → (y : ℕ) → T (used y) → y ≢ at
        other u y v e = T_not (used at) u (subst (λ (z : ℕ). T (used z)) e v)

    pub nearest_says : (at : ℕ) → T (below up base at) → Nearest at (nearest up used at)
    unfolding nearest
    nearest_says at l = near at at (omega arith) l
