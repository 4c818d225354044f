-- The search for the child in which nodes meet: what its two columns keep, and its turns; the descent to the merge point.
use mathlib.Core.Bool.{Bool, true, false, not}
use mathlib.Core.List.{List, [], ◌∷◌, ◌++◌, append-nil}
use mathlib.Core.Path.{◌≡◌, refl, sym, ap, ◌∙◌}
use mathlib.Core.Logic.{◌≢◌}
use Prim.Native.Nat.{ℕ, zero, suc, pred, ◌<◌}
use native.Mathlib.Decide.{ℕ_discrete}
use native.Mathlib.Omega.{arith}
use lib.Dec.{eqb}
use lib.ListN.{get_or, set, length, length-set, replicate, length-replicate, get_or-replicate}
use lib.Seq.{get_or-set_same, get_or-set_other}
use borrow.Author.Tests.{eq-eqb, ne_eqb}
use Rattle.sizes.specs.Sizes.{BLOCKS}
use Rattle.loops.specs.Listing.{times, keep, fold}
use Rattle.loops.proofs.Tests.{by_test}
use Rattle.loops.proofs.Listings.{times_here, times_more, keep_append, fold_append}
use Rattle.bitfield.specs.Bits.{joined}
use Rattle.graph.specs.Graph.{no_bits, join_of}
use Rattle.graph.specs.Ghost.{is_nil, under, towards, meets, merge}
use Rattle.vote_merge.proofs.Turns.{not_swap}

-- one node more is joined
join_more : (bits : ℕ → List ℕ) (l : List ℕ) (x : ℕ) → join_of bits (l ++ (x ∷ [])) ≡ joined (join_of bits l) (bits x)
unfolding join_of fold
join_more bits l x = fold_append (λ n v. joined v (bits n)) l (x ∷ []) no_bits

module _ (up : ℕ → ℕ) (bits : ℕ → List ℕ) (b : ℕ) where
  -- the nodes of a list that go towards a child
  abbrev pub going : ℕ → List ℕ → List ℕ
  going c l = keep (λ s. eqb (towards up b s) c) l

  going_here : (c x : ℕ) (l : List ℕ) → towards up b x ≡ c → going c (l ++ (x ∷ [])) ≡ going c l ++ (x ∷ [])
  going_here c x l e = keep_append _ l (x ∷ []) ∙ (unfold keep in rw (eq-eqb (towards up b x) c e))

  going_other : (c x : ℕ) (l : List ℕ) → towards up b x ≢ c → going c (l ++ (x ∷ [])) ≡ going c l
  going_other c x l d = keep_append _ l (x ∷ []) ∙ (unfold keep in rw (ne_eqb (towards up b x) c d) (append-nil _))

  -- a mark and the joined bits for each child, of the nodes in a list
  pub record Kept (l : List ℕ) (seen : List Bool) (sums : List (List ℕ)) : Type 0 where
    pub seen_size : length seen ≡ BLOCKS
    pub sums_size : length sums ≡ BLOCKS
    pub marked : (c : ℕ) → c < BLOCKS → get_or seen c false ≡ not (is_nil (going c l))
    pub summed : (c : ℕ) → c < BLOCKS → get_or sums c [] ≡ join_of bits (going c l)

  pub kept_none : Kept [] (replicate BLOCKS false) (replicate BLOCKS no_bits)
  unfolding keep join_of fold
  kept_none =
      record {
        seen_size = length-replicate BLOCKS false;
        sums_size = length-replicate BLOCKS no_bits;
        marked = λ c h. get_or-replicate BLOCKS c false false h;
        summed = λ c h. get_or-replicate BLOCKS c no_bits [] h;
      }

  more_not_nil : (l : List ℕ) (x : ℕ) → true ≡ not (is_nil (l ++ (x ∷ [])))
  more_not_nil [] x = refl
  more_not_nil (y ∷ l) x = refl

  -- at the node x, which goes to the child c: the bits v with those of x joined in
  module _ (l : List ℕ) (seen : List Bool) (sums : List (List ℕ)) (kept : Kept l seen sums) (c x : ℕ) (small : c < BLOCKS) (e : c ≡ towards up b x)
      (v : List ℕ) (joins : v ≡ joined (get_or sums c []) (bits x)) where
    total : v ≡ join_of bits (going c l ++ (x ∷ []))
    total = joins ∙ ap (λ (w : List ℕ). joined w (bits x)) (kept.summed c small) ∙ sym (join_more bits (going c l) x)

    pub kept_more : Kept (l ++ (x ∷ [])) (set seen c true) (set sums c v)
    kept_more =
        record {
          seen_size = simp length-set kept.seen_size;
          sums_size = simp length-set kept.sums_size;
          marked = λ d h. mark d h (ℕ_discrete d c);
          summed = λ d h. sum d h (ℕ_discrete d c);
        }
      where
        mark : (d : ℕ) → d < BLOCKS → Dec (d ≡ c) → get_or (set seen c true) d false ≡ not (is_nil (going d (l ++ (x ∷ []))))
        mark d h (yes q) =
            rw (q, going_here c x l (sym e), get_or-set_same seen c true false (omega (arith, kept.seen_size))) (more_not_nil (going c l) x)
        mark d h (no q) =
            get_or-set_other seen c d true false q ∙ kept.marked d h
            ∙ ap (λ (m : List ℕ). not (is_nil m)) (sym (going_other d x l (λ z. q (sym z ∙ sym e))))

        sum : (d : ℕ) → d < BLOCKS → Dec (d ≡ c) → get_or (set sums c v) d [] ≡ join_of bits (going d (l ++ (x ∷ [])))
        sum d h (yes q) = rw (q, going_here c x l (sym e), get_or-set_same sums c v [] (omega (arith, kept.sums_size))) total
        sum d h (no q) =
            get_or-set_other sums c d v [] q ∙ kept.summed d h ∙ ap (join_of bits) (sym (going_other d x l (λ z. q (sym z ∙ sym e))))

    -- the ways through a turn, the nodes ns to come
    module _ (ok : List ℕ → Bool) (ns : List ℕ) (d : x ≢ c) where
      other : eqb x (towards up b x) ≡ false
      other = ne_eqb x (towards up b x) (λ q. d (q ∙ sym e))

      nil : (z : Bool) → get_or seen c false ≡ z → is_nil (going (towards up b x) l) ≡ not z
      nil z q = rw (← e) (not_swap (is_nil (going c l)) z (sym q ∙ kept.marked c small))

      asked : (z : Bool) → ok v ≡ z → ok (join_of bits (going (towards up b x) l ++ (x ∷ []))) ≡ z
      asked z r = rw (← e) (sym (ap ok total) ∙ r)

      pub meets_first : get_or seen c false ≡ false → meets up bits ok b l (x ∷ ns) ≡ meets up bits ok b (l ++ (x ∷ [])) ns
      unfolding meets
      meets_first q = rw (other, nil false q)

      pub meets_here : get_or seen c false ≡ true → ok v ≡ true → meets up bits ok b l (x ∷ ns) ≡ c
      unfolding meets
      meets_here q r = rw (other, nil true q, asked true r) (sym e)

      pub meets_on : get_or seen c false ≡ true → ok v ≡ false → meets up bits ok b l (x ∷ ns) ≡ meets up bits ok b (l ++ (x ∷ [])) ns
      unfolding meets
      meets_on q r = rw (other, nil true q, asked false r)

  module _ (ok : List ℕ → Bool) where
    -- a node that is the child itself
    pub meets_child : (l ns : List ℕ) (x : ℕ) → x ≡ towards up b x → meets up bits ok b l (x ∷ ns) ≡ meets up bits ok b l ns
    unfolding meets
    meets_child l ns x e = rw (eq-eqb x (towards up b x) e)

    pub meets_end : (l : List ℕ) → meets up bits ok b l [] ≡ 0
    unfolding meets
    meets_end l = refl

    -- fewer than two nodes do not meet
    pub meets_few : (ns : List ℕ) → length ns < 2 → meets up bits ok b [] ns ≡ 0
    unfolding meets keep
    meets_few [] h = refl
    meets_few (x ∷ []) h = by_test (λ (r : ℕ). r ≡ 0) (eqb x (towards up b x)) _ _ (λ t. refl) (λ t. refl)
    meets_few (x ∷ y ∷ ns) h = absurd (omega arith)

    -- a child in which nodes meet is one that a node goes to
    pub meets_at : (ns l : List ℕ) → meets up bits ok b l ns ≢ 0 → (n : ℕ) × (0 < times n ns) × (towards up b n ≡ meets up bits ok b l ns)
    unfolding meets
    meets_at [] l = λ h. absurd (h refl)
    meets_at (n ∷ ns) l =
        by_test Goal (eqb n (towards up b n)) _ _ (λ t h. later _ (meets_at ns l h))
        (λ t. by_test Goal (is_nil (going (towards up b n) l)) _ _ (λ u h. later _ (meets_at ns (l ++ (n ∷ [])) h))
        (λ u. by_test Goal (ok (join_of bits (going (towards up b n) l ++ (n ∷ [])))) _ _ (λ v h. (n, omega (arith, times_here n ns), refl))
        (λ v h. later _ (meets_at ns (l ++ (n ∷ [])) h))))
      where
        Goal : ℕ → Type 0
        Goal c = c ≢ 0 → (m : ℕ) × (0 < times m (n ∷ ns)) × (towards up b m ≡ c)

        later : (c : ℕ) → (m : ℕ) × (0 < times m ns) × (towards up b m ≡ c) → (m : ℕ) × (0 < times m (n ∷ ns)) × (towards up b m ≡ c)
        later c r = (r.0, times_more r.0 n ns r.1, r.2)

-- the descent to the merge point
module _ (up : ℕ → ℕ) (bits : ℕ → List ℕ) (ok : List ℕ → Bool) (b : ℕ) (ns : List ℕ) where
  pub merge_ends : (f : ℕ) → 0 < f → meets up bits ok b [] ns ≡ 0 → merge up bits ok f b ns ≡ b
  unfolding merge
  merge_ends zero h e = absurd (omega arith)
  merge_ends (suc f) h e = rw (eq-eqb _ 0 e)

  pub merge_goes : (f : ℕ) → 0 < f → (c : ℕ) → c ≡ meets up bits ok b [] ns → c ≢ 0
      → merge up bits ok f b ns ≡ merge up bits ok (pred f) c (keep (under up c) ns)
  unfolding merge
  merge_goes zero h c e d = absurd (omega arith)
  merge_goes (suc f) h c e d = rw (← e, ne_eqb c 0 d)
