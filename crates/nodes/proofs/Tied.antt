-- The search and the listing by the nodes above are those of the graph that sound columns hold.
use mathlib.Core.Bool.{Bool, cond, not}
use mathlib.Core.List.{List, [], ◌∷◌}
use mathlib.Core.Path.{◌≡◌, refl, sym, ap, subst, ◌∙◌}
use mathlib.Core.Logic.{◌≢◌, ◌⊎◌, inl, inr}
use Prim.Native.Nat.{ℕ, zero, suc, pred, ◌≤◌, ◌<◌}
use native.Mathlib.Decide.{ℕ_discrete}
use native.Mathlib.Omega.{arith}
use lib.Dec.{T, leb, eqb, leb→le, nleb→lt, T_not}
use Rattle.loops.specs.Listing.{times, fold, front}
use Rattle.loops.proofs.Tests.{by_test, dec_T}
use Rattle.loops.proofs.Listings.{times_here, times_more, keep_cong}
use Rattle.grandpa.specs.Tree.{below}
use Rattle.grandpa.proofs.Trees.{below_refl, below_up, below_trans, below_le, below_line, below_step}
use Rattle.graph.specs.Search.{hold, note, containing, nearest}
use Rattle.graph.specs.Graph.{children}
use Rattle.graph.proofs.Climbs.{Told, hold_says, holds_same, Nearest, nearest_says}
use Rattle.nodes.specs.Nodes.{col, flag, held_from, held, found, listed_under}
use Rattle.nodes.specs.Columns.{Columns, view, Sound}

-- two loops over a list that agree on its places
pub fold_cong : {A : Type 0} (s r : ℕ → A → A) (l : List ℕ) (v : A) → ((x : ℕ) → 0 < times x l → (w : A) → s x w ≡ r x w) → fold s l v ≡ fold r l v
unfolding fold
fold_cong s r [] v h = refl
fold_cong s r (x ∷ l) v h =
    rw (h x (omega (arith, times_here x l)) v) (fold_cong s r l (r x v) (λ y m. h y (times_more y x l m)))

module _ (up above : ℕ → ℕ) (falls : (k : ℕ) → up k ≤ pred k) (used : ℕ → Bool) (base : ℕ) (base_used : T (used base))
    (inside : (x : ℕ) → T (used x) → T (below up base x)) (tied : (x : ℕ) → T (used x) → x ≢ base → above x ≡ nearest up used (up x))
    (b : ℕ) (in_base : T (below up base b)) (bare : T (not (used b))) where
  not_bare : (y : ℕ) → T (used y) → y ≢ b
  not_bare y u e = T_not (used b) bare (subst (λ (z : ℕ). T (used z)) e u)

  -- the node above a node past b
  over : (x : ℕ) → T (used x) → b < x → Nearest up falls used (up x) (above x)
  over x u h =
      rw (tied x u (λ e. omega (arith, below_le up falls base b in_base)))
      (nearest_says up falls used base base_used (up x) (below_step up falls base x (inside x u) (λ e. omega (arith, below_le up falls base b in_base))))

  held_told : (f node : ℕ) → node < f → T (used node) → Told up falls used b node bare (held_from up above b f node)
  unfolding held_from
  held_told zero node h u = absurd (omega arith)
  held_told (suc f) node h u =
      by_test told (leb node b) 0 _ (λ l. off (leb→le node b l)) (λ l. past (nleb→lt node b l) (held_told f))
    where
      told : ℕ → Type 0
      told r = Told up falls used b node bare r

      off : node ≤ b → told 0
      off l = record { on = λ t. absurd (not_bare node u (omega (arith, below_le up falls b node t))); off = λ t. refl }

      edge : b < node → above node ≤ b → told (cond (below up b node) node 0)
      edge l m =
          by_test told (below up b node) node 0
          (λ t. record {
            on = λ s. (record { is_node = u; under = t; alone = λ y v i j. alone y v i j (ℕ_discrete y node) }, below_refl up falls node);
            off = λ n. absurd (n t);
          })
          (λ t. record { on = λ s. absurd (T_not (below up b node) t s); off = λ n. refl })
        where
          alone : (y : ℕ) → T (used y) → T (below up b y) → T (below up y node) → Dec (y ≡ node) → y ≡ node
          alone y v i j (yes e) = e
          alone y v i j (no n) =
              let k = (over node u l).first y v (below_step up falls y node j n) in
              absurd (not_bare y v (omega (arith, below_le up falls y (above node) k, below_le up falls b y i)))

      jump : (r : ℕ) → b < node → b < above node → Told up falls used b (above node) bare r → told r
      jump r l m s =
          let to_node : T (below up (above node) node) = below_trans up falls (above node) (up node) node (over node u l).above (below_up up falls node) in
          record {
            on = λ t. let p = s.on (ahead t) in (p.0, below_trans up falls r (above node) node p.1 to_node);
            off = λ n. s.off (λ t. n (below_trans up falls b (above node) node t to_node));
          }
        where
          ahead : T (below up b node) → T (below up b (above node))
          ahead t = go (below_line up falls b (above node) (up node) (below_step up falls b node t (λ e. omega arith)) (over node u l).above)
            where
              go : T (below up b (above node)) ⊎ T (below up (above node) b) → T (below up b (above node))
              go (inl i) = i
              go (inr i) = absurd (omega (arith, below_le up falls (above node) b i))

      past : b < node → ((x : ℕ) → x < f → T (used x) → Told up falls used b x bare (held_from up above b f x))
          → told (cond (leb (above node) b) (cond (below up b node) node 0) (held_from up above b f (above node)))
      past l r =
          by_test told (leb (above node) b) _ _ (λ m. edge l (leb→le (above node) b m))
          (λ m. jump _ l (nleb→lt (above node) b m)
          (r (above node) (omega (arith, below_le up falls (above node) (up node) (over node u l).above, falls node)) (over node u l).is_node))

  -- a climb ends with one node
  told_same : (h r s : ℕ) → Told up falls used b h bare r → Told up falls used b h bare s → r ≡ s
  told_same h r s p q = go (dec_T (below up b h))
    where
      go : Dec (T (below up b h)) → r ≡ s
      go (yes t) = holds_same up falls used b r s h (p.on t).0 (q.on t).0 (p.on t).1 (q.on t).1
      go (no n) = p.off n ∙ sym (q.off n)

  pub held_is : (h : ℕ) → T (used h) → held up above b h ≡ hold up used b h
  unfolding held
  held_is h u = told_same h _ _ (held_told (suc h) h (omega arith) u) (hold_says up falls used b h bare u)

module _ (parents ids : List ℕ) (base count : ℕ) (g : Columns) (sound : Sound parents ids base count g) where
  pub found_is : (b : ℕ) → T (below (col parents) base b) → T (not (flag g.used b))
      → found (col parents) (col g.above) (front g.tips g.heads) b ≡ containing (col parents) (flag g.used) (front g.tips g.heads) b
  unfolding found containing
  found_is b l bare =
      fold_cong _ _ (front g.tips g.heads) []
      (λ h m w. ap (λ (x : ℕ). note x w)
      (held_is (col parents) (col g.above) sound.parents_fall (flag g.used) base sound.nodes.base_used sound.nodes.inside sound.tied b l bare h
      (sound.nodes.head_only h m).0))

  pub listed_is : (x : ℕ) → listed_under (col g.above) (front g.listed g.order) x ≡ children (col parents) (view g) x
  unfolding listed_under children
  listed_is x =
      keep_cong _ _ (front g.listed g.order)
      (λ n m. let r = sound.nodes.list_only n m in ap (λ (z : ℕ). eqb z x) (sound.tied n r.0 r.1))
