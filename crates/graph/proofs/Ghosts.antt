-- Where `find_ghost` ends: at or below its start, at a block that passes, of which no child with a vote-node at or below it
-- passes. All that is asked of the question is that more bits pass where fewer do.
use mathlib.Core.Bool.{Bool, true, false, cond, not, ◌&&◌, ◌||◌}
use mathlib.Core.List.{List, [], ◌∷◌, ◌++◌, append_assoc, append-nil}
use mathlib.Core.Path.{◌≡◌, refl, sym, ap, subst, ◌∙◌}
use mathlib.Core.Logic.{◌≢◌, ◌⊎◌, inl, inr, ⊎_elim}
use Prim.Native.Nat.{ℕ, zero, suc, pred, ◌+◌, ◌≤◌, ◌<◌}
use native.Mathlib.Decide.{ℕ_discrete}
use native.Mathlib.Omega.{arith}
use lib.Dec.{T, eqb, ltb, eqb→eq, eqb_refl, T_not, not_T, ltb→lt}
use lib.ListN.{length}
use borrow.Author.Tests.{eq-eqb, ne_eqb, eqb-true}
use Rattle.sizes.specs.Sizes.{WORDS, BLOCKS}
use Rattle.loops.specs.Listing.{times, keep, some_of}
use Rattle.loops.proofs.Tests.{by_test, both, left_of, right_of, dec_T, true_T, false_T, false_not}
use Rattle.loops.proofs.Listings.{times_here, times_past, times_none, times_more, times_append, times_keep, keep_append, keep_every, kept_in, in_kept, some_at, some_intro}
use Rattle.grandpa.specs.Tree.{below, child}
use Rattle.grandpa.specs.Vote.{Vote, lands}
use Rattle.grandpa.specs.Answers.{first_of}
use Rattle.grandpa.proofs.Trees.{below_refl, below_up, below_trans, below_le, below_antisym, below_step, child_below, child_towards}
use Rattle.bitfield.specs.Bits.{has}
use Rattle.graph.specs.Search.{containing, nearest}
use Rattle.graph.specs.Graph.{Graph, join_of, tally, children}
use Rattle.graph.specs.Ghost.{is_nil, under, towards, first_in, meets, merge, settle, following, find_ghost, find_ancestor}
use Rattle.graph.specs.Shape.{Holds, Shape, Targets}
use Rattle.graph.proofs.Climbs.{Nearest, nearest_says}
use Rattle.graph.proofs.Found.{containing_over}
use Rattle.graph.proofs.Tallies.{has_join, length_join, tally_told, lands_target, lands_above, target_lands}
use Rattle.graph.proofs.Listed.{nearest_unique}
use Rattle.graph.proofs.Followed.{under_is, is_under, child_under, towards_says, towards_is, child_same, Next, Follow, follow_down, following_says}
use Rattle.std.specs.Prelude.{Some, None}

-- the first that passes
first_in_says : (p : ℕ → Bool) (l : List ℕ) → ((n : ℕ) → 0 < times n l → n ≢ 0)
    → ((first_in p l ≡ 0) × ((n : ℕ) → 0 < times n l → p n ≡ false)) ⊎ ((0 < times (first_in p l) l) × T (p (first_in p l)) × (first_in p l ≢ 0))
unfolding first_in
first_in_says p [] nz = inl (refl, λ n h. absurd (omega (arith, times_none n)))
first_in_says p (x ∷ l) nz = go (p x) refl (first_in_says p l (λ n h. nz n (times_more n x l h)))
  where
    go : (b : Bool) → p x ≡ b
        → ((first_in p l ≡ 0) × ((n : ℕ) → 0 < times n l → p n ≡ false)) ⊎ ((0 < times (first_in p l) l) × T (p (first_in p l)) × (first_in p l ≢ 0))
        → ((cond b x (first_in p l) ≡ 0) × ((n : ℕ) → 0 < times n (x ∷ l) → p n ≡ false))
        ⊎ ((0 < times (cond b x (first_in p l)) (x ∷ l)) × T (p (cond b x (first_in p l))) × (cond b x (first_in p l) ≢ 0))
    go true e r = inr (omega (arith, times_here x l), subst T (sym e) tt, nz x (omega (arith, times_here x l)))
    go false e (inl r) = inl (r.0, λ n h. pick n h (ℕ_discrete x n))
      where
        pick : (n : ℕ) → 0 < times n (x ∷ l) → Dec (x ≡ n) → p n ≡ false
        pick n h (yes q) = ap p (sym q) ∙ e
        pick n h (no q) = r.1 n (omega (arith, times_past n x l q))
    go false e (inr r) = inr (times_more _ x l r.0, r.1, r.2)

nil_is : (l : List ℕ) → is_nil l ≡ true → l ≡ []
nil_is [] e = refl
nil_is (x ∷ l) e = absurd (let z : ◌≡◌ {A = ℕ} 0 1 = cc in omega arith)

more_not_nil : (l : List ℕ) (x : ℕ) → is_nil (l ++ (x ∷ [])) ≡ false
more_not_nil [] x = refl
more_not_nil (y ∷ l) x = refl

-- nodes below b that meet in its children
module _ (up : ℕ → ℕ) (falls : (k : ℕ) → up k ≤ pred k) (bits : ℕ → List ℕ) (ok : List ℕ → Bool) (b : ℕ) where
  abbrev Lower : List ℕ → Type 0
  Lower ns = (n : ℕ) → 0 < times n ns → T (under up b n)

  abbrev towards_c : ℕ → List ℕ → List ℕ
  towards_c c l = keep (λ s. eqb (towards up b s) c) l

  child_positive : (n : ℕ) → T (under up b n) → towards up b n ≢ 0
  child_positive n u e =
      omega (arith, ltb→lt 0 (towards up b n) (left_of (ltb 0 (towards up b n)) _ (towards_says up falls b n u).0))

  -- one step of the search that ends with 0
  on_zero : (z : Bool) (x y : ℕ) → x ≢ 0 → cond z x y ≡ 0 → (z ≡ false) × (y ≡ 0)
  on_zero true x y n e = absurd (n e)
  on_zero false x y n e = (refl, e)

  -- a node that goes elsewhere changes nothing for c
  keep_snoc : (c n : ℕ) (l : List ℕ) → towards up b n ≢ c → towards_c c (l ++ (n ∷ [])) ≡ towards_c c l
  keep_snoc c n l d = keep_append _ l (n ∷ []) ∙ (unfold keep in rw (ne_eqb (towards up b n) c d) (append-nil _))

  keep_snoc_in : (c n : ℕ) (l : List ℕ) → towards up b n ≡ c → towards_c c (l ++ (n ∷ [])) ≡ towards_c c l ++ (n ∷ [])
  keep_snoc_in c n l e = keep_append _ l (n ∷ []) ∙ (unfold keep in rw (eq-eqb (towards up b n) c e))

  keep_cons : (c n : ℕ) (l : List ℕ) → towards up b n ≢ c → towards_c c (n ∷ l) ≡ towards_c c l
  unfolding keep
  keep_cons c n l d = rw (ne_eqb (towards up b n) c d)

  keep_cons_in : (c n : ℕ) (l : List ℕ) → towards up b n ≡ c → towards_c c (n ∷ l) ≡ n ∷ towards_c c l
  unfolding keep
  keep_cons_in c n l e = rw (eq-eqb (towards up b n) c e)

  -- what the search did at n, where it ends with 0 and n goes elsewhere or is not the child itself
  step_zero : (seen ns : List ℕ) (n : ℕ) → T (under up b n) → meets up bits ok b seen (n ∷ ns) ≡ 0
      → ((n ≡ towards up b n) × (meets up bits ok b seen ns ≡ 0))
      ⊎ ((n ≢ towards up b n) × (meets up bits ok b (seen ++ (n ∷ [])) ns ≡ 0)
      × (is_nil (towards_c (towards up b n) seen) ≡ false → ok (join_of bits (towards_c (towards up b n) seen ++ (n ∷ []))) ≡ false))
  unfolding meets
  step_zero seen ns n u e = go (ℕ_discrete n (towards up b n)) (is_nil (towards_c (towards up b n) seen)) refl
    where
      go : Dec (n ≡ towards up b n) → (z : Bool) → is_nil (towards_c (towards up b n) seen) ≡ z
          → ((n ≡ towards up b n) × (meets up bits ok b seen ns ≡ 0))
          ⊎ ((n ≢ towards up b n) × (meets up bits ok b (seen ++ (n ∷ [])) ns ≡ 0)
          × (is_nil (towards_c (towards up b n) seen) ≡ false → ok (join_of bits (towards_c (towards up b n) seen ++ (n ∷ []))) ≡ false))
      go (yes q) z f = inl (q, rw (eq-eqb n (towards up b n) q) at e)
      go (no q) true f =
          inr (q, (rw (ne_eqb n (towards up b n) q, f) at e), λ h. absurd (let w : ◌≡◌ {A = ℕ} 0 1 = cc in omega arith))
      go (no q) false f =
          let r = on_zero (ok (join_of bits (towards_c (towards up b n) seen ++ (n ∷ [])))) (towards up b n) _ (child_positive n u)
          (rw (ne_eqb n (towards up b n) q, f) at e) in
          inr (q, r.1, λ h. r.0)

  -- where the search ends with 0, the joined bits of two or more nodes that meet in a bare child do not pass
  met_one : (c : ℕ) (ns seen : List ℕ) → Lower ns → times c ns ≡ 0 → meets up bits ok b seen ns ≡ 0
      → is_nil (towards_c c seen) ≡ false → is_nil (towards_c c ns) ≡ false → ok (join_of bits (towards_c c seen ++ towards_c c ns)) ≡ false
  met_one c [] seen lower out e h k = absurd (unfold keep in let z : ◌≡◌ {A = ℕ} 0 1 = cc in omega arith)
  met_one c (n ∷ ns) seen lower out e h k =
      go (ℕ_discrete (towards up b n) c) (step_zero seen ns n (lower n (omega (arith, times_here n ns))) e)
      (λ s. met_one c ns s (λ x m. lower x (times_more x n ns m)) rest)
    where
      rest : times c ns ≡ 0
      rest = past (ℕ_discrete n c)
        where
          past : Dec (n ≡ c) → times c ns ≡ 0
          past (yes q) = absurd (omega (arith, times_here c ns, ap (λ (x : ℕ). times c (x ∷ ns)) q))
          past (no q) = omega (arith, times_past c n ns q)

      go : Dec (towards up b n ≡ c)
          → ((n ≡ towards up b n) × (meets up bits ok b seen ns ≡ 0))
          ⊎ ((n ≢ towards up b n) × (meets up bits ok b (seen ++ (n ∷ [])) ns ≡ 0)
          × (is_nil (towards_c (towards up b n) seen) ≡ false → ok (join_of bits (towards_c (towards up b n) seen ++ (n ∷ []))) ≡ false))
          → ((s : List ℕ) → meets up bits ok b s ns ≡ 0 → is_nil (towards_c c s) ≡ false → is_nil (towards_c c ns) ≡ false
          → ok (join_of bits (towards_c c s ++ towards_c c ns)) ≡ false)
          → ok (join_of bits (towards_c c seen ++ towards_c c (n ∷ ns))) ≡ false
      go (yes q) (inl r) f = absurd (omega (arith, times_here c ns, ap (λ (x : ℕ). times c (x ∷ ns)) (r.0 ∙ q)))
      go (yes q) (inr r) f = split (is_nil (towards_c c ns)) refl
        where
          split : (z : Bool) → is_nil (towards_c c ns) ≡ z → ok (join_of bits (towards_c c seen ++ towards_c c (n ∷ ns))) ≡ false
          split true z =
              rw (keep_cons_in c n ns q, nil_is (towards_c c ns) z)
              (subst (λ (x : ℕ). is_nil (towards_c x seen) ≡ false → ok (join_of bits (towards_c x seen ++ (n ∷ []))) ≡ false) q r.2 h)
          split false z =
              let s = f (seen ++ (n ∷ [])) r.1 (ap is_nil (keep_snoc_in c n seen q) ∙ more_not_nil (towards_c c seen) n) z in
              rw (keep_cons_in c n ns q) (subst (λ (l : List ℕ). ok (join_of bits l) ≡ false)
              (ap (λ (l : List ℕ). l ++ towards_c c ns) (keep_snoc_in c n seen q) ∙ append_assoc (towards_c c seen) (n ∷ []) (towards_c c ns)) s)
      go (no q) (inl r) f = rw (keep_cons c n ns q) (f seen r.1 h (ap is_nil (sym (keep_cons c n ns q)) ∙ k))
      go (no q) (inr r) f =
          rw (keep_cons c n ns q) (subst (λ (l : List ℕ). ok (join_of bits (l ++ towards_c c ns)) ≡ false) (keep_snoc c n seen q)
          (f (seen ++ (n ∷ [])) r.1 (ap is_nil (keep_snoc c n seen q) ∙ h) (ap is_nil (sym (keep_cons c n ns q)) ∙ k)))

  met_two : (c x y : ℕ) (rest ns seen : List ℕ) → Lower ns → times c ns ≡ 0 → meets up bits ok b seen ns ≡ 0
      → towards_c c seen ≡ [] → towards_c c ns ≡ x ∷ y ∷ rest → ok (join_of bits (towards_c c ns)) ≡ false
  met_two c x y rest [] seen lower out e h k = absurd (unfold keep in let z : ◌≡◌ {A = ℕ} 0 1 = cc in omega arith)
  met_two c x y rest (n ∷ ns) seen lower out e h k =
      go (ℕ_discrete (towards up b n) c) (step_zero seen ns n (lower n (omega (arith, times_here n ns))) e)
      (λ s. met_two c x y rest ns s lower' out')
    where
      lower' : Lower ns
      lower' m i = lower m (times_more m n ns i)

      out' : times c ns ≡ 0
      out' = past (ℕ_discrete n c)
        where
          past : Dec (n ≡ c) → times c ns ≡ 0
          past (yes q) = absurd (omega (arith, times_here c ns, ap (λ (x : ℕ). times c (x ∷ ns)) q))
          past (no q) = omega (arith, times_past c n ns q)

      go : Dec (towards up b n ≡ c)
          → ((n ≡ towards up b n) × (meets up bits ok b seen ns ≡ 0))
          ⊎ ((n ≢ towards up b n) × (meets up bits ok b (seen ++ (n ∷ [])) ns ≡ 0)
          × (is_nil (towards_c (towards up b n) seen) ≡ false → ok (join_of bits (towards_c (towards up b n) seen ++ (n ∷ []))) ≡ false))
          → ((s : List ℕ) → meets up bits ok b s ns ≡ 0 → towards_c c s ≡ [] → towards_c c ns ≡ x ∷ y ∷ rest → ok (join_of bits (towards_c c ns)) ≡ false)
          → ok (join_of bits (towards_c c (n ∷ ns))) ≡ false
      go (yes q) (inl r) f = absurd (omega (arith, times_here c ns, ap (λ (x : ℕ). times c (x ∷ ns)) (r.0 ∙ q)))
      go (yes q) (inr r) f =
          let alone : towards_c c (seen ++ (n ∷ [])) ≡ n ∷ [] = keep_snoc_in c n seen q ∙ ap (λ (l : List ℕ). l ++ (n ∷ [])) h in
          let tail : towards_c c ns ≡ y ∷ rest = cc (keep_cons_in c n ns q, k) in
          let s = met_one c ns (seen ++ (n ∷ [])) lower' out' r.1 (ap is_nil alone) (ap is_nil tail) in
          rw (keep_cons_in c n ns q) (subst (λ (l : List ℕ). ok (join_of bits (l ++ towards_c c ns)) ≡ false) alone s)
      go (no q) (inl r) f = rw (keep_cons c n ns q) (f seen r.1 h (sym (keep_cons c n ns q) ∙ k))
      go (no q) (inr r) f = rw (keep_cons c n ns q) (f (seen ++ (n ∷ [])) r.1 (keep_snoc c n seen q ∙ h) (sym (keep_cons c n ns q) ∙ k))

  -- where it ends with a child, nodes that go there pass together
  pub record Met (seen ns : List ℕ) (c : ℕ) : Type 0 where
    pub node : ℕ
    pub in_list : 0 < times node ns
    pub not_child : node ≢ c
    pub goes : towards up b node ≡ c
    pub group : List ℕ
    pub known : (x : ℕ) → 0 < times x group → (0 < times x seen) ⊎ (0 < times x ns)
    pub all_go : (x : ℕ) → 0 < times x group → towards up b x ≡ c
    pub passes : T (ok (join_of bits group))

  met_later : (n c : ℕ) (seen more ns : List ℕ) → ((x : ℕ) → 0 < times x more → (0 < times x seen) ⊎ (0 < times x (n ∷ ns))) → Met more ns c → Met seen (n ∷ ns) c
  met_later n c seen more ns f m =
      record {
        node = m.node;
        in_list = times_more m.node n ns m.in_list;
        not_child = m.not_child;
        goes = m.goes;
        group = m.group;
        known = λ x h. ⊎_elim (f x) (λ i. inr (times_more x n ns i)) (m.known x h);
        all_go = m.all_go;
        passes = m.passes;
      }

  met : (ns seen : List ℕ) → meets up bits ok b seen ns ≢ 0 → Met seen ns (meets up bits ok b seen ns)
  unfolding meets
  met [] seen = λ h. absurd (h refl)
  met (n ∷ ns) seen =
      by_test Goal (eqb n (towards up b n)) _ _
      (λ e h. met_later n _ seen seen ns (λ x i. inl i) (met ns seen h))
      (λ e. by_test Goal (is_nil (towards_c (towards up b n) seen)) _ _
      (λ f h. met_later n _ seen (seen ++ (n ∷ [])) ns in_both (met ns (seen ++ (n ∷ [])) h))
      (λ f. by_test Goal (ok (join_of bits (towards_c (towards up b n) seen ++ (n ∷ [])))) _ _
      (λ t h. record {
        node = n;
        in_list = omega (arith, times_here n ns);
        not_child = λ q. T_not (eqb n (towards up b n)) e (subst (λ (z : ℕ). T (eqb n z)) q (eqb_refl n));
        goes = refl;
        group = towards_c (towards up b n) seen ++ (n ∷ []);
        known = λ x i. ⊎_elim (λ j. inl (kept_in _ x seen j).0) (λ j. inr (head_in x j)) (apart x i);
        all_go = λ x i. ⊎_elim (λ j. eqb→eq _ _ (kept_in _ x seen j).1) (λ j. ap (towards up b) (sym (head_is x j))) (apart x i);
        passes = t;
      })
      (λ t h. met_later n _ seen (seen ++ (n ∷ [])) ns in_both (met ns (seen ++ (n ∷ [])) h))))
    where
      Goal : ℕ → Type 0
      Goal c = c ≢ 0 → Met seen (n ∷ ns) c

      head_is : (x : ℕ) → 0 < times x (n ∷ []) → n ≡ x
      head_is x i = go (ℕ_discrete n x)
        where
          go : Dec (n ≡ x) → n ≡ x
          go (yes q) = q
          go (no q) = absurd (omega (arith, times_past x n [] q, times_none x))

      head_in : (x : ℕ) → 0 < times x (n ∷ []) → 0 < times x (n ∷ ns)
      head_in x i = rw (← head_is x i) (omega (arith, times_here n ns))

      two : (x : ℕ) (l : List ℕ) → 0 < times x (l ++ (n ∷ [])) → (0 < times x l) ⊎ (0 < times x (n ∷ []))
      two x l i = go (ℕ_discrete (times x l) 0)
        where
          go : Dec (times x l ≡ 0) → (0 < times x l) ⊎ (0 < times x (n ∷ []))
          go (yes q) = inr (omega (arith, times_append x l (n ∷ [])))
          go (no q) = inl (omega arith)

      apart : (x : ℕ) → 0 < times x (towards_c (towards up b n) seen ++ (n ∷ [])) → (0 < times x (towards_c (towards up b n) seen)) ⊎ (0 < times x (n ∷ []))
      apart x i = two x (towards_c (towards up b n) seen) i

      in_both : (x : ℕ) → 0 < times x (seen ++ (n ∷ [])) → (0 < times x seen) ⊎ (0 < times x (n ∷ ns))
      in_both x i = ⊎_elim (λ j. inl j) (λ j. inr (head_in x j)) (two x seen i)

module _ (up ids : ℕ → ℕ) (falls : (k : ℕ) → up k ≤ pred k) (base count : ℕ) (cast : ℕ → Vote) (g : Graph) (shape : Shape up ids base count cast g)
    (ok : List ℕ → Bool) (mono : (v w : List ℕ) → length v ≡ WORDS → length w ≡ WORDS → ((j : ℕ) → T (has v j) → T (has w j)) → T (ok v) → T (ok w))
    (small : count ≤ BLOCKS) where
  abbrev passing : ℕ → Bool
  passing b = ok (tally up g b)

  -- where the search ends
  pub record Ended (b r : ℕ) : Type 0 where
    pub lower : T (below up b r)
    pub tabled : r < count
    pub passes : T (ok (tally up g r))
    pub noded : (r ≡ b) ⊎ ((y : ℕ) × T (g.used y) × T (below up r y))
    pub childless : (c y : ℕ) → T (child up r c) → T (g.used y) → T (below up c y) → T (ok (tally up g c)) → ⊥

  wide : (b : ℕ) → length (tally up g b) ≡ WORDS
  unfolding tally
  wide b =
      by_test (λ (v : List ℕ). length v ≡ WORDS) (g.used b) (g.bits b) _ (shape.rows.words b)
      (λ u. length_join g.bits (containing up g.used g.heads b))

  node_tally : (n : ℕ) → T (g.used n) → tally up g n ≡ g.bits n
  unfolding tally
  node_tally n u = rw (true_T (g.used n) u)

  -- the joined bits of nodes at or below a block pass only where the block's do
  group_passes : (c : ℕ) (l : List ℕ) → ((x : ℕ) → 0 < times x l → T (g.used x) × T (below up c x)) → T (ok (join_of g.bits l)) → T (ok (tally up g c))
  group_passes c l lower = mono _ _ (length_join g.bits l) (wide c) (λ j t. told j (subst T (has_join g.bits l (λ n h. shape.rows.words n (lower n h).0) j) t))
    where
      told : (j : ℕ) → T (some_of (λ n. has (g.bits n) j) l) → T (has (tally up g c) j)
      told j t =
          let r = some_at (λ n. has (g.bits n) j) l t in
          let p = lower r.0 r.1 in
          subst T (sym (tally_told up ids falls base count cast g shape c j))
          (lands_above up falls c r.0 (cast j) p.1 (subst T (shape.rows.told r.0 p.0 j) r.2))

  -- and where a bare block's do, those of the nodes whose edge holds it do
  passes_group : (c : ℕ) → T (not (g.used c)) → (l : List ℕ) → ((x : ℕ) → Holds up g.used c x → 0 < times x l)
      → ((x : ℕ) → 0 < times x l → T (g.used x)) → T (ok (tally up g c)) → T (ok (join_of g.bits l))
  passes_group c bare l Has_All nodes = mono _ _ (wide c) (length_join g.bits l) (λ j t. told j (subst T (tally_told up ids falls base count cast g shape c j) t))
    where
      told : (j : ℕ) → T (lands up c (cast j)) → T (has (join_of g.bits l) j)
      told j t =
          let x = lands_target up c (cast j) t in
          let r = containing_over up ids falls base count g.used g.order g.heads shape.nodes c bare x.0 (shape.voted.target_used j x.0 x.1) x.2 in
          subst T (sym (has_join g.bits l (λ n h. shape.rows.words n (nodes n h)) j))
          (some_intro (λ n. has (g.bits n) j) l r.0 (Has_All r.0 r.2)
          (subst T (sym (shape.rows.told r.0 r.2.is_node j)) (target_lands up r.0 x.0 (cast j) x.1 r.3)))

  -- a block that follows, and nodes that do not pass alone
  module _ (b : ℕ) (ns : List ℕ) (follow : Follow up falls g.used b ns) where
    lower_all : (n : ℕ) → 0 < times n ns → T (under up b n)
    lower_all n h = (follow.only n h).lower

    -- a child that has a node follows
    child_next : (c : ℕ) → T (child up b c) → T (g.used c) → Next up falls g.used b c
    child_next c p u =
        record {
          is_node = u;
          lower = child_under up falls b c c p (below_refl up falls c);
          alone = λ y v w l. go y w l (ℕ_discrete y c);
        }
      where
        go : (y : ℕ) → T (under up b y) → T (below up y c) → Dec (y ≡ c) → y ≡ c
        go y w l (yes e) = e
        go y w l (no d) =
            let r = under_is up falls b y w in
            absurd (r.1 (omega (arith, below_le up falls y (up c) (below_step up falls y c l d), eqb→eq (up c) b (right_of (ltb 0 c) _ p), below_le up falls b y r.0)))

    -- a node whose edge holds a bare child follows, and goes to the child
    holds_next : (c x : ℕ) → T (child up b c) → T (not (g.used c)) → Holds up g.used c x → Next up falls g.used b x
    holds_next c x p bare h =
        record {
          is_node = h.is_node;
          lower = child_under up falls b c x p h.under;
          alone = λ y v w l. h.alone y v (below_child y w l) l;
        }
      where
        below_child : (y : ℕ) → T (under up b y) → T (below up y x) → T (below up c y)
        below_child y w l =
            let r = towards_says up falls b y w in
            let e : towards up b y ≡ c = child_same up falls b (towards up b y) c x r.0 p (below_trans up falls _ y x r.1 l) h.under in
            subst (λ (z : ℕ). T (below up z y)) e r.1

    module _ (alone : (n : ℕ) → 0 < times n ns → ok (g.bits n) ≡ false) (still : meets up g.bits ok b [] ns ≡ 0) where
      stuck_bare : (c y : ℕ) → T (child up b c) → T (not (g.used c)) → T (g.used y) → T (below up c y) → T (ok (tally up g c)) → ⊥
      stuck_bare c y p bare u l t = go (keep (λ s. eqb (towards up b s) c) ns) refl
        where
          out : times c ns ≡ 0
          out = pick (ℕ_discrete (times c ns) 0)
            where
              pick : Dec (times c ns ≡ 0) → times c ns ≡ 0
              pick (yes e) = e
              pick (no d) = absurd (T_not (g.used c) bare (follow.only c (omega arith)).is_node)

          in_group : (x : ℕ) → Holds up g.used c x → 0 < times x (keep (λ s. eqb (towards up b s) c) ns)
          in_group x h =
              let n = holds_next c x p bare h in
              in_kept _ x ns (follow.every x n)
              (subst (λ (z : ℕ). T (eqb z c)) (sym (towards_is up falls b c x p h.under n.lower)) (eqb_refl c))

          together : T (ok (join_of g.bits (keep (λ s. eqb (towards up b s) c) ns)))
          together =
              passes_group c bare _ in_group (λ x h. (follow.only x (kept_in _ x ns h).0).is_node) t

          go : (k : List ℕ) → keep (λ s. eqb (towards up b s) c) ns ≡ k → ⊥
          go [] e =
              let r = containing_over up ids falls base count g.used g.order g.heads shape.nodes c bare y u l in
              omega (arith, in_group r.0 r.2, ap (times r.0) e, times_none r.0)
          go (x ∷ []) e =
              let here : 0 < times x ns = (kept_in _ x ns (subst (λ (k : List ℕ). 0 < times x k) (sym e) (omega (arith, times_here x [])))).0 in
              let one : T (ok (join_of g.bits (x ∷ []))) = subst (λ (k : List ℕ). T (ok (join_of g.bits k))) e together in
              let n = follow.only x here in
              T_not (ok (g.bits x)) (subst (λ (z : Bool). T (not z)) (sym (alone x here)) tt)
              (subst (λ (v : List ℕ). T (ok v)) (node_tally x n.is_node)
              (group_passes x (x ∷ []) (λ z h. (subst (λ (w : ℕ). T (g.used w)) (only_one z h) n.is_node, subst (λ (w : ℕ). T (below up x w)) (only_one z h) (below_refl up falls x))) one))
            where
              only_one : (z : ℕ) → 0 < times z (x ∷ []) → x ≡ z
              only_one z h = pick (ℕ_discrete x z)
                where
                  pick : Dec (x ≡ z) → x ≡ z
                  pick (yes q) = q
                  pick (no q) = absurd (omega (arith, times_past z x [] q, times_none z))
          go (x ∷ z ∷ k) e =
              T_not (ok (join_of g.bits (keep (λ s. eqb (towards up b s) c) ns)))
              (subst (λ (w : Bool). T (not w)) (sym (met_two up falls g.bits ok b c x z k ns [] lower_all out still (unfold keep in refl) e)) tt) together

      stuck : (c y : ℕ) → T (child up b c) → T (g.used y) → T (below up c y) → T (ok (tally up g c)) → ⊥
      stuck c y p u l t = go (dec_T (g.used c))
        where
          go : Dec (T (g.used c)) → ⊥
          go (yes v) =
              T_not (ok (g.bits c)) (subst (λ (z : Bool). T (not z)) (sym (alone c (follow.every c (child_next c p v)))) tt)
              (subst (λ (w : List ℕ). T (ok w)) (node_tally c v) t)
          go (no v) = stuck_bare c y p (not_T (g.used c) v) u l t

    -- the child in which nodes meet has no node, and passes
    module _ (moved : meets up g.bits ok b [] ns ≢ 0) where
      abbrev there : ℕ
      there = meets up g.bits ok b [] ns

      meeting : Met up falls g.bits ok b [] ns there
      meeting = met up falls g.bits ok b ns [] moved

      goes_there : (x : ℕ) → 0 < times x ns → towards up b x ≡ there → T (child up b there) × T (below up there x)
      goes_there x h e =
          let r = towards_says up falls b x (lower_all x h) in
          (subst (λ (z : ℕ). T (child up b z)) e r.0, subst (λ (z : ℕ). T (below up z x)) e r.1)

      child_there : T (child up b there)
      child_there = (goes_there meeting.node meeting.in_list meeting.goes).0

      bare_there : T (not (g.used there))
      bare_there = not_T (g.used there) (λ u.
          meeting.not_child (sym ((follow.only meeting.node meeting.in_list).alone there u
          (child_under up falls b there there child_there (below_refl up falls there))
          (goes_there meeting.node meeting.in_list meeting.goes).1)))

      passes_there : T (ok (tally up g there))
      passes_there =
          group_passes there meeting.group
          (λ x h.
          let i = ⊎_elim (λ k. absurd (omega (arith, times_none x))) (λ k. k) (meeting.known x h) in
          ((follow.only x i).is_node, (goes_there x i (meeting.all_go x h)).1))
          meeting.passes

      nodes_there : (r : ℕ) → there ≡ r → (y : ℕ) × T (g.used y) × T (below up r y)
      nodes_there r e = (
        meeting.node,
        (follow.only meeting.node meeting.in_list).is_node,
        subst (λ (z : ℕ). T (below up z meeting.node)) e (goes_there meeting.node meeting.in_list meeting.goes).1,
      )

      tabled_there : there < count
      tabled_there =
          omega (
            arith,
            shape.nodes.tabled meeting.node (follow.only meeting.node meeting.in_list).is_node,
            below_le up falls there meeting.node (goes_there meeting.node meeting.in_list meeting.goes).1,
          )

      past_there : b < there
      past_there = let r = child_below up falls b there child_there in omega (arith, below_le up falls b there r.0, r.1)

  merge_ends : (f b : ℕ) (ns : List ℕ) → count ≤ b + f → b < count → T (ok (tally up g b)) → Follow up falls g.used b ns
      → ((n : ℕ) → 0 < times n ns → ok (g.bits n) ≡ false) → Ended b (merge up g.bits ok f b ns)
  unfolding merge
  merge_ends zero b ns h k t follow alone = absurd (omega arith)
  merge_ends (suc f) b ns h k t follow alone =
      by_test (Ended b) (eqb (meets up g.bits ok b [] ns) 0) b _
      (λ e. record { lower = below_refl up falls b; tabled = k; passes = t; noded = inl refl; childless = stuck b ns follow alone (eqb→eq _ _ e) })
      (λ e.
      let c = meets up g.bits ok b [] ns in
      let moved : c ≢ 0 = λ q. T_not (eqb c 0) e (subst (λ (z : ℕ). T (eqb c z)) q (eqb_refl c)) in
      let r = merge_ends f c (keep (under up c) ns) (omega (arith, past_there b ns follow moved)) (tabled_there b ns follow moved) (passes_there b ns follow moved)
      (follow_down up falls g.used b c ns follow (child_there b ns follow moved) (bare_there b ns follow moved))
      (λ n i. alone n (kept_in (under up c) n ns i).0) in
      record {
        lower = below_trans up falls b c _ (child_below up falls b c (child_there b ns follow moved)).0 r.lower;
        tabled = r.tabled;
        passes = r.passes;
        childless = r.childless;
        noded = inr (⊎_elim (λ q. nodes_there b ns follow moved _ (sym q)) (λ y. y) r.noded);
      })

  -- at a node, its children follow
  children_follow : (x : ℕ) → T (g.used x) → Follow up falls g.used x (children up g x)
  children_follow x u = subst (Follow up falls g.used x) same (following_says up ids falls base count g shape.nodes x (shape.nodes.inside x u))
    where
      near : nearest up g.used x ≡ x
      near =
          nearest_unique up falls g.used x (nearest up g.used x) x
          (nearest_says up falls g.used base shape.nodes.base_used x (shape.nodes.inside x u))
          (record { is_node = u; above = below_refl up falls x; first = λ y v m. m })

      listed_under : (n : ℕ) → 0 < times n (children up g x) → under up x n ≡ true
      listed_under n h = unfold children in
          let r = kept_in (λ n. eqb (nearest up g.used (up n)) x) n g.order h in
          let s = shape.nodes.list_only n r.0 in
          let q = nearest_says up falls g.used base shape.nodes.base_used (up n) (below_step up falls base n (shape.nodes.inside n s.0) (λ z. s.1 (sym z))) in
          let l : T (below up x (up n)) = subst (λ (z : ℕ). T (below up z (up n))) (eqb→eq _ x r.1) q.above in
          true_T _ (is_under up falls x n (below_trans up falls x (up n) n l (below_up up falls n))
          (λ e. omega (arith, below_le up falls x (up n) l, falls n, below_le up falls base n (shape.nodes.inside n s.0), s.1)))

      same : following up g x ≡ children up g x
      same = unfold following in (ap (λ (z : ℕ). keep (under up x) (children up g z)) near ∙ keep_every (under up x) (children up g x) listed_under)

  settle_ends : (f b : ℕ) (ns : List ℕ) → count ≤ b + f → b < count → T (ok (tally up g b)) → Follow up falls g.used b ns → Ended b (settle up g ok f b ns)
  unfolding settle
  settle_ends zero b ns h k t follow = absurd (omega arith)
  settle_ends (suc f) b ns h k t follow =
      go (first_in_says (λ n. ok (g.bits n)) ns nonzero) (λ c. settle_ends f c (children up g c))
    where
      nonzero : (n : ℕ) → 0 < times n ns → n ≢ 0
      nonzero n i e = let r = under_is up falls b n (follow.only n i).lower in omega (arith, below_le up falls b n r.0, r.1)

      c' : ℕ
      c' = first_in (λ n. ok (g.bits n)) ns

      go : ((first_in (λ n. ok (g.bits n)) ns ≡ 0) × ((n : ℕ) → 0 < times n ns → ok (g.bits n) ≡ false))
          ⊎ ((0 < times (first_in (λ n. ok (g.bits n)) ns) ns) × T (ok (g.bits (first_in (λ n. ok (g.bits n)) ns))) × (first_in (λ n. ok (g.bits n)) ns ≢ 0))
          → ((c : ℕ) → count ≤ c + f → c < count → T (ok (tally up g c)) → Follow up falls g.used c (children up g c) → Ended c (settle up g ok f c (children up g c)))
          → Ended b (cond (eqb c' 0) (merge up g.bits ok BLOCKS b ns) (settle up g ok f c' (children up g c')))
      go (inl r) rec = rw (eq-eqb c' 0 r.0) (merge_ends BLOCKS b ns (omega arith) k t follow r.1)
      go (inr r) rec =
          let n = follow.only c' r.0 in
          let q = under_is up falls b c' n.lower in
          let e = rec c' (omega (arith, below_le up falls b c' q.0, q.1)) (shape.nodes.tabled c' n.is_node)
          (subst (λ (v : List ℕ). T (ok v)) (sym (node_tally c' n.is_node)) r.1) (children_follow c' n.is_node) in
          rw (ne_eqb c' 0 r.2)
          (record {
            lower = below_trans up falls b c' _ q.0 e.lower;
            tabled = e.tabled;
            passes = e.passes;
            noded = inr (⊎_elim (λ z. (c', n.is_node, subst (λ (w : ℕ). T (below up w c')) (sym z) (below_refl up falls c'))) (λ y. y) e.noded);
            childless = e.childless;
          })

  -- where the start passes, the search ends; else it says none
  pub ghost_ends : (b : ℕ) → T (below up base b) → b < count → T (ok (tally up g b)) → (r : ℕ) × (find_ghost up g ok b ≡ Some r) × Ended b r
  unfolding find_ghost
  ghost_ends b in_base k t = (
    settle up g ok BLOCKS b (following up g b),
    rw (true_T (ok (tally up g b)) t),
    settle_ends BLOCKS b (following up g b) (omega arith) k t (following_says up ids falls base count g shape.nodes b in_base),
  )

  pub ghost_none : (b : ℕ) → T (not (ok (tally up g b))) → find_ghost up g ok b ≡ None
  unfolding find_ghost
  ghost_none b t = rw (false_T (ok (tally up g b)) t)

  -- weight does not fall towards the root
  passes_up : (a b : ℕ) → T (below up a b) → T (ok (tally up g b)) → T (ok (tally up g a))
  passes_up a b l = mono _ _ (wide b) (wide a) (λ j t.
      subst T (sym (tally_told up ids falls base count cast g shape a j))
      (lands_above up falls a b (cast j) l (subst T (tally_told up ids falls base count cast g shape b j) t)))

  -- the search stays at its start exactly where no child with a vote-node at or below it passes
  pub ghost_stays : (b r : ℕ) → Ended b r → ((c y : ℕ) → T (child up b c) → T (g.used y) → T (below up c y) → T (ok (tally up g c)) → ⊥) → r ≡ b
  ghost_stays b r e childless = ⊎_elim (λ q. q) moved e.noded
    where
      moved : (y : ℕ) × T (g.used y) × T (below up r y) → r ≡ b
      moved y = go (ℕ_discrete b r)
        where
          go : Dec (b ≡ r) → r ≡ b
          go (yes q) = sym q
          go (no d) =
              let c = child_towards up falls b r e.lower d in
              absurd (childless c.0 y.0 c.1 y.1 (below_trans up falls c.0 r y.0 c.2 y.2) (passes_up c.0 r c.2 e.passes))

  -- from a block in the graph `find_ancestor` is the first block towards the base that passes
  pub ancestor_is : (b y : ℕ) → T (g.used y) → T (below up b y) → find_ancestor up g base ok b ≡ first_of up (λ x. ok (tally up g x)) base b
  unfolding find_ancestor
  ancestor_is b y u l = go (dec_T (g.used b))
    where
      not_nil : (x : ℕ) (l : List ℕ) → 0 < times x l → is_nil l ≡ false
      not_nil x [] h = absurd (omega (arith, times_none x))
      not_nil x (z ∷ l) h = refl

      go : Dec (T (g.used b))
          → cond (not (g.used b) && is_nil (containing up g.used g.heads b)) None (first_of up (λ x. ok (tally up g x)) base b)
          ≡ first_of up (λ x. ok (tally up g x)) base b
      go (yes v) = rw (true_T (g.used b) v)
      go (no v) =
          let bare = not_T (g.used b) v in
          let r = containing_over up ids falls base count g.used g.order g.heads shape.nodes b bare y u l in
          rw (false_T (g.used b) bare, not_nil r.0 _ r.1)
