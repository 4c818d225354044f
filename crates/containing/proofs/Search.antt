-- The search over heads. Its marks say which nodes are settled: the node that they lead to is in the list, or there is none.
use mathlib.Core.Bool.{Bool, true, false, cond}
use mathlib.Core.List.{List, [], ◌∷◌, ◌++◌}
use mathlib.Core.Path.{◌≡◌, refl, sym, ap, subst, ◌∙◌}
use mathlib.Core.Logic.{◌≢◌, ◌⊎◌, inl, inr, ⊎_elim}
use Prim.Native.Nat.{ℕ, zero, suc, pred, ◌+◌, ◌≤◌, ◌<◌}
use native.Mathlib.Decide.{ℕ_discrete}
use native.Mathlib.Omega.{arith}
use lib.Dec.{leb, eqb}
use lib.ListN.{get_or, set, length, length-set, length-append, length-replicate, replicate}
use lib.Seq.{get_or-set_same, get_or-set_other}
use borrow.Author.Tests.{eq-eqb, ne_eqb, le-leb, lt-leb}
use Rattle.sizes.specs.Sizes.{BLOCKS}
use Rattle.loops.specs.Listing.{times, fold, front}
use Rattle.loops.proofs.Listings.{times_end, times_not_end, times_none, times_append, fold_front}
use Rattle.columns.specs.Lists.{padded}
use Rattle.columns.proofs.Padded.{next_padded}
use Rattle.grandpa.specs.Tree.{below}
use Rattle.graph.specs.Search.{note}
use Rattle.nodes.specs.declared.Places.{Places}
use Rattle.nodes.specs.Nodes.{held_from, held, found, placed}

-- noting a place
note_known : (x : ℕ) (l : List ℕ) → (x ≡ 0) ⊎ (0 < times x l) → note x l ≡ l
unfolding note
note_known x l (inl e) = rw (eq-eqb x 0 e)
note_known x l (inr h) = go (ℕ_discrete x 0)
  where
    go : Dec (x ≡ 0) → cond (eqb x 0) l (cond (eqb (times x l) 0) (l ++ (x ∷ [])) l) ≡ l
    go (yes e) = rw (eq-eqb x 0 e)
    go (no n) = rw (ne_eqb x 0 n, ne_eqb (times x l) 0 (λ e. omega arith))

note_new : (x : ℕ) (l : List ℕ) → x ≢ 0 → times x l ≡ 0 → note x l ≡ l ++ (x ∷ [])
unfolding note
note_new x l n e = rw (ne_eqb x 0 n, eq-eqb (times x l) 0 e)

module _ (up above : ℕ → ℕ) (falls : (k : ℕ) → above k ≤ pred k) (b : ℕ) where
  held_fuel : (f g node : ℕ) → node < f → node < g → held_from up above b f node ≡ held_from up above b g node
  unfolding held_from
  held_fuel zero g node h k = absurd (omega arith)
  held_fuel (suc f) zero node h k = absurd (omega arith)
  held_fuel (suc f) (suc g) node h k = go (ℕ_discrete node 0) (λ n. held_fuel f g (above node) (omega (arith, falls node)) (omega (arith, falls node)))
    where
      rest : ℕ → ℕ
      rest r = cond (leb node b) 0 (cond (leb (above node) b) (cond (below up b node) node 0) r)

      go : Dec (node ≡ 0) → (node ≢ 0 → held_from up above b f (above node) ≡ held_from up above b g (above node))
          → rest (held_from up above b f (above node)) ≡ rest (held_from up above b g (above node))
      go (yes e) r = rw (le-leb node b (omega arith))
      go (no n) r = ap rest (r n)

  abbrev to : ℕ → ℕ
  to = held up above b

  held_off : (node : ℕ) → node ≤ b → to node ≡ 0
  unfolding held held_from
  held_off node h = rw (le-leb node b h)

  held_step : (f node : ℕ) → b < node → b < above node → held_from up above b (suc f) node ≡ held_from up above b f (above node)
  unfolding held_from
  held_step f node h k = ap (λ (z : Bool). cond z 0 (cond (leb (above node) b) (cond (below up b node) node 0) (held_from up above b f (above node)))) (lt-leb node b h)
      ∙ ap (λ (z : Bool). cond z (cond (below up b node) node 0) (held_from up above b f (above node))) (lt-leb (above node) b k)

  held_jump : (node : ℕ) → b < node → b < above node → to node ≡ to (above node)
  unfolding held
  held_jump node h k = held_step node node h k ∙ held_fuel node (suc (above node)) (above node) (omega (arith, falls node)) (omega arith)

  held_edge : (node : ℕ) → b < node → above node ≤ b → to node ≡ cond (below up b node) node 0
  unfolding held held_from
  held_edge node h k = rw (lt-leb node b h, le-leb (above node) b k)

  -- what y leads to is settled
  abbrev Known : ℕ → List ℕ → Type 0
  Known y l = (to y ≡ 0) ⊎ (0 < times (to y) l)

  pub record Marks (visited : List Bool) (l : List ℕ) : Type 0 where
    pub size : length visited ≡ BLOCKS
    pub met : (y : ℕ) → get_or visited y false ≡ true → Known y l
    pub kept : (x : ℕ) → 0 < times x l → get_or visited x false ≡ true

  -- on the way from the head h, at a node: what was marked on the way leads where the node leads
  pub record Way (visited : List Bool) (l : List ℕ) (h node : ℕ) : Type 0 where
    pub size : length visited ≡ BLOCKS
    pub leads : to h ≡ to node
    pub met : (y : ℕ) → get_or visited y false ≡ true → Known y l ⊎ ((to y ≡ to node) × (node < y))
    pub kept : (x : ℕ) → 0 < times x l → get_or visited x false ≡ true

  marks_none : Marks (replicate BLOCKS false) []
  marks_none =
      record {
        size = length-replicate BLOCKS false;
        met = λ y e. absurd (unmarked y e);
        kept = λ x h. absurd (omega (arith, times_none x));
      }
    where
      unmarked : (y : ℕ) → get_or (replicate BLOCKS false) y false ≡ true → ⊥
      unmarked y e = let z : ◌≡◌ {A = ℕ} 0 1 = cc (blank BLOCKS y) in omega arith
        where
          blank : (n k : ℕ) → get_or (replicate n false) k false ≡ false
          blank zero k = refl
          blank (suc n) zero = refl
          blank (suc n) (suc k) = blank n k

  pub way_start : (visited : List Bool) (l : List ℕ) (h : ℕ) → Marks visited l → Way visited l h h
  way_start visited l h m = record { size = m.size; leads = refl; met = λ y e. inl (m.met y e); kept = m.kept }

  -- where the head leads is known: the list stays
  module _ (visited : List Bool) (l : List ℕ) (h node : ℕ) (w : Way visited l h node) where
    settled : Known node l → (note (to h) l ≡ l) × Marks visited l
    settled k = (
      note_known (to h) l (⊎_elim (λ e. inl (w.leads ∙ e)) (λ i. inr (subst (λ (x : ℕ). 0 < times x l) (sym w.leads) i)) k),
      record {
        size = w.size;
        met = λ y e. ⊎_elim (λ i. i) (λ i. ⊎_elim (λ z. inl (i.0 ∙ z)) (λ j. inr (subst (λ (x : ℕ). 0 < times x l) (sym i.0) j)) k) (w.met y e);
        kept = w.kept;
      },
    )

    pub way_off : node ≤ b → (note (to h) l ≡ l) × Marks visited l
    way_off k = settled (inl (held_off node k))

    pub way_met : get_or visited node false ≡ true → (note (to h) l ≡ l) × Marks visited l
    way_met e = settled (⊎_elim (λ k. k) (λ i. absurd (omega (arith, i.1))) (w.met node e))

    module _ (small : node < BLOCKS) (fresh : get_or visited node false ≡ false) where
      abbrev marked : List Bool
      marked = set visited node true

      marked_size : length marked ≡ BLOCKS
      marked_size = simp length-set w.size

      marked_here : get_or marked node false ≡ true
      marked_here = get_or-set_same visited node true false (omega (arith, w.size))

      marked_old : (y : ℕ) → get_or visited y false ≡ true → get_or marked y false ≡ true
      marked_old y e = go (ℕ_discrete y node)
        where
          go : Dec (y ≡ node) → get_or marked y false ≡ true
          go (yes q) = ap (λ (x : ℕ). get_or marked x false) q ∙ marked_here
          go (no q) = get_or-set_other visited node y true false q ∙ e

      -- what is marked is the node or was
      marked_was : (P : Type 0) (y : ℕ) → get_or marked y false ≡ true → (y ≡ node → P) → (get_or visited y false ≡ true → P) → P
      marked_was P y e f g = go (ℕ_discrete y node)
        where
          go : Dec (y ≡ node) → P
          go (yes q) = f q
          go (no q) = g (sym (get_or-set_other visited node y true false q) ∙ e)

      pub way_up : b < node → b < above node → Way marked l h (above node)
      way_up p q =
          record {
            size = marked_size;
            leads = w.leads ∙ held_jump node p q;
            met = λ y e. marked_was _ y e
                (λ i. inr (ap to i ∙ held_jump node p q, omega (arith, falls node)))
                (λ i. ⊎_elim (λ k. inl k) (λ k. inr (k.0 ∙ held_jump node p q, omega (arith, falls node, k.1))) (w.met y i));
            kept = λ x i. marked_old x (w.kept x i);
          }

      pub way_bare : b < node → above node ≤ b → below up b node ≡ false → (note (to h) l ≡ l) × Marks marked l
      way_bare p q r =
          let none : to node ≡ 0 = held_edge node p q ∙ ap (λ (z : Bool). cond z node 0) r in (
            note_known (to h) l (inl (w.leads ∙ none)),
            record {
              size = marked_size;
              met = λ y e. marked_was _ y e (λ i. inl (ap to i ∙ none)) (λ i. ⊎_elim (λ k. k) (λ k. inl (k.0 ∙ none)) (w.met y i));
              kept = λ x i. marked_old x (w.kept x i);
            },
          )

      pub way_hit : b < node → above node ≤ b → below up b node ≡ true → (note (to h) l ≡ l ++ (node ∷ [])) × Marks marked (l ++ (node ∷ []))
      way_hit p q r = (
        ap (λ (x : ℕ). note x l) (w.leads ∙ here) ∙ note_new node l (λ e. omega arith) new,
        record {
          size = marked_size;
          met = λ y e. marked_was _ y e (λ i. inr (in_end y (ap to i ∙ here)))
              (λ i. ⊎_elim (⊎_elim (λ z. inl z) (λ k. inr (omega (arith, times_append (to y) l (node ∷ []))))) (λ k. inr (in_end y (k.0 ∙ here))) (w.met y i));
          kept = λ x i. kept' x i (ℕ_discrete node x);
        },
      )
        where
          here : to node ≡ node
          here = held_edge node p q ∙ ap (λ (z : Bool). cond z node 0) r

          new : times node l ≡ 0
          new = go (ℕ_discrete (times node l) 0)
            where
              go : Dec (times node l ≡ 0) → times node l ≡ 0
              go (yes e) = e
              go (no e) = absurd (let seen = w.kept node (omega arith) in let z : ◌≡◌ {A = ℕ} 0 1 = cc in omega arith)

          in_end : (y : ℕ) → to y ≡ node → 0 < times (to y) (l ++ (node ∷ []))
          in_end y e = rw e (omega (arith, times_end node l))

          kept' : (x : ℕ) → 0 < times x (l ++ (node ∷ [])) → Dec (node ≡ x) → get_or marked x false ≡ true
          kept' x i (yes e) = ap (λ (z : ℕ). get_or marked z false) (sym e) ∙ marked_here
          kept' x i (no e) = marked_old x (w.kept x (omega (arith, times_not_end x node l e)))

-- the loop over the heads
module _ (up above : ℕ → ℕ) (falls : (k : ℕ) → above k ≤ pred k) (b : ℕ) (heads : List ℕ) where
  abbrev pub upto : ℕ → List ℕ
  upto k = found up above (front k heads) b

  upto_next : (k : ℕ) → upto (k + 1) ≡ note (held up above b (get_or heads k 0)) (upto k)
  unfolding found
  upto_next k = fold_front (λ h l. note (held up above b h) l) k heads []

  -- between two heads
  pub record Between (visited : List Bool) (places : List ℕ) (count k : ℕ) : Type 0 where
    pub marks : Marks up above falls b visited (upto k)
    pub count_is : count ≡ length (upto k)
    pub places_are : places ≡ padded BLOCKS (upto k)
    pub few : count ≤ k

  pub between_start : Between (replicate BLOCKS false) (replicate BLOCKS 0) 0 0
  unfolding found front fold padded
  between_start = record { marks = marks_none up above falls b; count_is = refl; places_are = refl; few = omega arith }

  -- the list stays, or has one place more
  pub between_same : (visited visited' : List Bool) (places : List ℕ) (count k : ℕ) → Between visited places count k
      → (note (held up above b (get_or heads k 0)) (upto k) ≡ upto k) × Marks up above falls b visited' (upto k) → Between visited' places count (k + 1)
  between_same visited visited' places count k s r =
      let e = upto_next k ∙ r.0 in
      record {
        marks = subst (Marks up above falls b visited') (sym e) r.1;
        count_is = s.count_is ∙ ap length (sym e);
        places_are = s.places_are ∙ ap (padded BLOCKS) (sym e);
        few = omega (arith, s.few);
      }

  pub between_more : (visited visited' : List Bool) (places : List ℕ) (count k node : ℕ) → k < BLOCKS → Between visited places count k
      → (note (held up above b (get_or heads k 0)) (upto k) ≡ upto k ++ (node ∷ [])) × Marks up above falls b visited' (upto k ++ (node ∷ []))
      → Between visited' (set places count node) (count + 1) (k + 1)
  between_more visited visited' places count k node small s r =
      let e = upto_next k ∙ r.0 in
      record {
        marks = subst (Marks up above falls b visited') (sym e) r.1;
        count_is = omega (arith, s.count_is, length-append (upto k) (node ∷ []), ap length e);
        places_are =
            rw (s.places_are, s.count_is) (next_padded BLOCKS (upto k) node (omega (arith, s.few, s.count_is)) ∙ ap (padded BLOCKS) (sym e));
        few = omega (arith, s.few);
      }

  pub between_end : (visited : List Bool) (places : List ℕ) (count k : ℕ) → Between visited places count k → front k heads ≡ heads
      → ◌≡◌ {A = Places} (record { places = places; count = count }) (placed (found up above heads b))
  unfolding placed
  between_end visited places count k s e = rw (s.places_are, s.count_is, e)
