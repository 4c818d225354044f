-- The nodes that follow a block, and what the tree's children of the block have to do with them.
use mathlib.Core.Bool.{Bool, true, false, cond, not, ◌&&◌, ◌||◌}
use mathlib.Core.List.{List, [], ◌∷◌, ◌++◌}
use mathlib.Core.Path.{◌≡◌, refl, sym, ap, subst, ◌∙◌}
use mathlib.Core.Logic.{◌≢◌, ◌⊎◌, inl, inr, ⊎_elim}
use Prim.Native.Nat.{ℕ, zero, suc, pred, ◌+◌, ◌≤◌, ◌<◌}
use native.Mathlib.Decide.{ℕ_discrete}
use native.Mathlib.Omega.{arith}
use lib.Dec.{T, eqb, ltb, eqb→eq, eqb_refl, T_not, not_T, ltb→lt}
use borrow.Author.Tests.{eq-eqb, ne_eqb}
use Rattle.loops.specs.Listing.{times, keep}
use Rattle.loops.proofs.Tests.{by_test, both, left_of, right_of, dec_T}
use Rattle.loops.proofs.Listings.{times_keep, kept_in, in_kept}
use Rattle.grandpa.specs.Tree.{below, child}
use Rattle.grandpa.specs.Vote.{Vote}
use Rattle.grandpa.proofs.Trees.{below_refl, below_up, below_trans, below_le, below_antisym, below_line, below_step, child_is, child_below}
use Rattle.graph.specs.Search.{until, nearest}
use Rattle.graph.specs.Graph.{Graph, children}
use Rattle.graph.specs.Ghost.{under, towards, following}
use Rattle.graph.specs.Shape.{Holds, Nodes}
use Rattle.graph.proofs.Climbs.{Nearest, nearest_says}
use Rattle.graph.proofs.Listed.{nearest_unique}

module _ (up : ℕ → ℕ) (falls : (k : ℕ) → up k ≤ pred k) where
  pub under_is : (b n : ℕ) → T (under up b n) → T (below up b n) × (n ≢ b)
  under_is b n t = (
    left_of (below up b n) _ t,
    λ e. T_not (eqb n b) (right_of (below up b n) _ t) (subst (λ (z : ℕ). T (eqb n z)) e (eqb_refl n)),
  )

  pub is_under : (b n : ℕ) → T (below up b n) → n ≢ b → T (under up b n)
  is_under b n l d = both (below up b n) _ l (not_T (eqb n b) (λ t. d (eqb→eq n b t)))

  -- the child of b towards n
  towards_at : (b f at : ℕ) → at ≤ f → T (below up b at) → at ≢ b → T (child up b (until up (λ x. eqb (up x) b) f at)) × T (below up (until up (λ x. eqb (up x) b) f at) at)
  unfolding until
  towards_at b zero at h l d = absurd (omega (arith, below_le up falls b at l))
  towards_at b (suc f) at h l d =
      by_test (λ (x : ℕ). T (child up b x) × T (below up x at)) (eqb (up at) b) at (until up (λ x. eqb (up x) b) f (up at))
      (λ e. (child_is up falls b at (omega (arith, below_le up falls b at l)) (eqb→eq (up at) b e), below_refl up falls at))
      (λ e.
      let r = towards_at b f (up at) (omega (arith, falls at)) (below_step up falls b at l (λ q. d (sym q)))
      (λ q. T_not (eqb (up at) b) e (subst (λ (z : ℕ). T (eqb (up at) z)) q (eqb_refl (up at)))) in
      (r.0, below_trans up falls _ (up at) at r.1 (below_up up falls at)))

  pub towards_says : (b n : ℕ) → T (under up b n) → T (child up b (towards up b n)) × T (below up (towards up b n) n)
  unfolding towards
  towards_says b n u = let p = under_is b n u in towards_at b n n (omega arith) p.0 p.1

  -- two children of one block above one block are one
  pub child_same : (b c d n : ℕ) → T (child up b c) → T (child up b d) → T (below up c n) → T (below up d n) → c ≡ d
  child_same b c d n p q l m = go (below_line up falls c d n l m)
    where
      parent : (x : ℕ) → T (child up b x) → up x ≡ b
      parent x t = eqb→eq (up x) b (right_of (ltb 0 x) _ t)

      positive : (x : ℕ) → T (child up b x) → 0 < x
      positive x t = ltb→lt 0 x (left_of (ltb 0 x) _ t)

      lower : (x y : ℕ) → T (child up b x) → T (child up b y) → T (below up x y) → Dec (x ≡ y) → x ≡ y
      lower x y s t k (yes e) = e
      lower x y s t k (no e) =
          absurd (omega (arith, below_le up falls x (up y) (below_step up falls x y k e), parent y t, parent x s, falls x, positive x s))

      go : T (below up c d) ⊎ T (below up d c) → c ≡ d
      go (inl k) = lower c d p q k (ℕ_discrete c d)
      go (inr k) = sym (lower d c q p k (ℕ_discrete d c))

  pub towards_is : (b c n : ℕ) → T (child up b c) → T (below up c n) → T (under up b n) → towards up b n ≡ c
  towards_is b c n p l u = let r = towards_says b n u in child_same b (towards up b n) c n r.0 p r.1 l

  pub child_under : (b c n : ℕ) → T (child up b c) → T (below up c n) → T (under up b n)
  child_under b c n p l =
      let r = child_below up falls b c p in
      is_under b n (below_trans up falls b c n r.0 l)
      (λ e. r.1 (below_antisym up falls b c r.0 (subst (λ (z : ℕ). T (below up c z)) e l)))

  module _ (used : ℕ → Bool) where
    -- n follows b: a node strictly below it, with no node on the way
    pub record Next (b n : ℕ) : Type 0 where
      pub is_node : T (used n)
      pub lower : T (under up b n)
      pub alone : (y : ℕ) → T (used y) → T (under up b y) → T (below up y n) → y ≡ n

    -- a list of exactly the nodes that follow b, each once
    pub record Follow (b : ℕ) (ns : List ℕ) : Type 0 where
      pub single : (n : ℕ) → times n ns ≤ 1
      pub only : (n : ℕ) → 0 < times n ns → Next b n
      pub every : (n : ℕ) → Next b n → 0 < times n ns

    -- of a bare child, the nodes that follow are those of the block that lie below it
    pub follow_down : (b c : ℕ) (ns : List ℕ) → Follow b ns → T (child up b c) → T (not (used c)) → Follow c (keep (under up c) ns)
    follow_down b c ns fw p bare =
        record {
          single = single_down;
          only = λ n h. only_down n (kept_in (under up c) n ns h);
          every = λ n x. in_kept (under up c) n ns (fw.every n (record {
            is_node = x.is_node;
            lower = from_child n x.lower;
            alone = λ y u v l. x.alone y u (to_child n x y u v l) l;
          })) x.lower;
        }
      where
        single_down : (n : ℕ) → times n (keep (under up c) ns) ≤ 1
        single_down n = omega (arith, times_keep (under up c) n ns, fw.single n, less (under up c n))
          where
            less : (w : Bool) → cond w (times n ns) 0 ≤ times n ns
            less true = omega arith
            less false = omega arith

        from_child : (n : ℕ) → T (under up c n) → T (under up b n)
        from_child n u = child_under b c n p (under_is c n u).0

        only_down : (n : ℕ) → (0 < times n ns) × T (under up c n) → Next c n
        only_down n r =
            let x = fw.only n r.0 in
            record { is_node = x.is_node; lower = r.1; alone = λ y u v l. x.alone y u (from_child y v) l }

        to_child : (n : ℕ) → Next c n → (y : ℕ) → T (used y) → T (under up b y) → T (below up y n) → T (under up c y)
        to_child n x y u v l =
            let r = towards_says b y v in
            let e : towards up b y ≡ c = child_same b (towards up b y) c n r.0 p (below_trans up falls (towards up b y) y n r.1 l) (under_is c n x.lower).0 in
            is_under c y (subst (λ (z : ℕ). T (below up z y)) e r.1)
            (λ q. T_not (used c) bare (subst (λ (z : ℕ). T (used z)) q u))

-- `following` lists them
module _ (up ids : ℕ → ℕ) (falls : (k : ℕ) → up k ≤ pred k) (base count : ℕ) (g : Graph) (nodes : Nodes up ids base count g.used g.order g.heads) where
  listed_once : (n : ℕ) → times n g.order ≤ 1
  listed_once n = go (ℕ_discrete (times n g.order) 0)
    where
      go : Dec (times n g.order ≡ 0) → times n g.order ≤ 1
      go (yes e) = omega arith
      go (no d) = let r = nodes.list_only n (omega arith) in omega (arith, nodes.listed n r.0 r.1)

  kept_once : (p : ℕ → Bool) (n : ℕ) (l : List ℕ) → times n l ≤ 1 → times n (keep p l) ≤ 1
  kept_once p n l h = omega (arith, times_keep p n l, less (p n))
    where
      less : (w : Bool) → cond w (times n l) 0 ≤ times n l
      less true = omega arith
      less false = omega arith

  pub following_says : (b : ℕ) → T (below up base b) → Follow up falls g.used b (following up g b)
  unfolding following children
  following_says b in_base =
      record {
        single = λ n. kept_once (under up b) n _ (kept_once _ n g.order (listed_once n));
        only = λ n h. let r = kept_in (under up b) n (keep (λ n. eqb (nearest up g.used (up n)) a) g.order) h in
            let s = kept_in (λ n. eqb (nearest up g.used (up n)) a) n g.order r.0 in
            follows n s.0 (eqb→eq _ _ s.1) r.1;
        every = λ n x. in_kept (under up b) n _ (in_kept (λ n. eqb (nearest up g.used (up n)) a) n g.order (listed n x)
            (subst (λ (z : ℕ). T (eqb z a)) (sym (parent n x)) (eqb_refl a))) x.lower;
      }
    where
      a : ℕ
      a = nearest up g.used b

      near : Nearest up falls g.used b (nearest up g.used b)
      near = nearest_says up falls g.used base nodes.base_used b in_base

      follows : (n : ℕ) → 0 < times n g.order → nearest up g.used (up n) ≡ nearest up g.used b → T (under up b n) → Next up falls g.used b n
      follows n h e u =
          let r = nodes.list_only n h in
          let q = under_is up falls b n u in
          let above = nearest_says up falls g.used base nodes.base_used (up n) (below_step up falls base n (nodes.inside n r.0) (λ z. r.1 (sym z))) in
          record { is_node = r.0; lower = u; alone = λ y v w l. last y v w l (ℕ_discrete y n) above }
        where
          last : (y : ℕ) → T (g.used y) → T (under up b y) → T (below up y n) → Dec (y ≡ n)
              → Nearest up falls g.used (up n) (nearest up g.used (up n)) → y ≡ n
          last y v w l (yes z) above = z
          last y v w l (no z) above =
              let s = under_is up falls b y w in
              absurd (s.1 (omega (arith, below_le up falls y _ (above.first y v (below_step up falls y n l z)), e, below_le up falls _ b near.above, below_le up falls b y s.0)))

      inside_n : (n : ℕ) → Next up falls g.used b n → n ≢ base
      inside_n n x e =
          let s = under_is up falls b n x.lower in
          s.1 (omega (arith, below_le up falls b n s.0, below_le up falls base b in_base, e))

      listed : (n : ℕ) → Next up falls g.used b n → 0 < times n g.order
      listed n x = omega (arith, nodes.listed n x.is_node (inside_n n x))

      parent : (n : ℕ) → Next up falls g.used b n → nearest up g.used (up n) ≡ nearest up g.used b
      parent n x =
          nearest_unique up falls g.used (up n) _ _
          (nearest_says up falls g.used base nodes.base_used (up n) (below_step up falls base n (nodes.inside n x.is_node) (λ z. inside_n n x (sym z))))
          (record {
            is_node = near.is_node;
            above = below_trans up falls _ b (up n) near.above to_parent;
            first = λ y v l. go y v l (below_line up falls y b (up n) l to_parent) (ℕ_discrete y b);
          })
        where
          s : T (below up b n) × (n ≢ b)
          s = under_is up falls b n x.lower

          to_parent : T (below up b (up n))
          to_parent = below_step up falls b n (under_is up falls b n x.lower).0 (λ z. (under_is up falls b n x.lower).1 (sym z))

          go : (y : ℕ) → T (g.used y) → T (below up y (up n)) → T (below up y b) ⊎ T (below up b y) → Dec (y ≡ b) → T (below up y (nearest up g.used b))
          go y v l (inl k) d = near.first y v k
          go y v l (inr k) (yes e) = near.first y v (subst (λ (z : ℕ). T (below up y z)) e (below_refl up falls y))
          go y v l (inr k) (no d) =
              let e : y ≡ n = x.alone y v (is_under up falls b y k d) (below_trans up falls y (up n) n l (below_up up falls n)) in
              absurd (omega (arith, below_le up falls y (up n) l, falls n, below_le up falls b n (under_is up falls b n x.lower).0, (under_is up falls b n x.lower).1))
