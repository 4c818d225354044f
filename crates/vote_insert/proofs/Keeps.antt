-- `insert` on sound columns is `insert` of the graph that they hold, keeps them sound, and finds room.
use mathlib.Core.Bool.{Bool, true, false, cond, not, ◌&&◌, ◌||◌}
use mathlib.Core.List.{List, [], ◌∷◌}
use mathlib.Core.Path.{◌≡◌, refl, sym, ap, subst, fun_ext, ◌∙◌}
use mathlib.Core.Logic.{◌≢◌, ⊎_elim}
use Prim.Native.Nat.{ℕ, zero, suc, pred, ◌+◌, ◌≤◌, ◌<◌}
use native.Mathlib.Decide.{ℕ_discrete}
use native.Mathlib.Omega.{arith}
use lib.Dec.{T, eqb, eqb→eq, T_not}
use lib.ListN.{set, length, length-set}
use lib.Seq.{get_or-set_same, get_or-set_other}
use borrow.Author.Tests.{eq-eqb, ne_eqb}
use Rattle.sizes.specs.Sizes.{WORDS, BLOCKS}
use Rattle.loops.specs.Listing.{times, keep, fold, front}
use Rattle.loops.proofs.Tests.{T_true, T_false, or_false, by_test, either}
use Rattle.loops.proofs.Listings.{times_here, times_past, times_none, times_keep, kept_in, length_front}
use Rattle.columns.specs.Lists.{padded}
use Rattle.columns.proofs.Padded.{length_padded}
use Rattle.grandpa.specs.Tree.{below}
use Rattle.grandpa.proofs.Trees.{below_le, below_step}
use Rattle.bitfield.specs.Bits.{put}
use Rattle.bitfield.proofs.Sets.{length_put}
use Rattle.graph.specs.Search.{containing, nearest}
use Rattle.graph.specs.Graph.{Graph, join_of, relist, rehead, add_node, mark, insert}
use Rattle.graph.specs.Shape.{Holds, Nodes}
use Rattle.graph.proofs.Climbs.{Nearest, nearest_says, holds_past}
use Rattle.graph.proofs.Found.{containing_only, containing_has}
use Rattle.graph.proofs.Tallies.{length_join}
use Rattle.graph.proofs.Inserts.{added_nodes}
use Rattle.graph.proofs.Listed.{near_member, near_other, near_new}
use Rattle.nodes.specs.Nodes.{col, flag, row, Falls, found}
use Rattle.nodes.specs.Columns.{Columns, view, Sound}
use Rattle.nodes.proofs.Tied.{found_is}
use Rattle.vote_insert.specs.Insert.{set_all, added, marked, with_rows, inserted, Insertable}
use Rattle.nodes.proofs.Lists.{front_padded}
use Rattle.vote_lists.specs.Placing.{without}
use Rattle.vote_lists.proofs.Lists.{or_true}
use Rattle.vote_insert.proofs.Marks.{length_marked, marked_bits}

-- different places below n are at most n
length_without : (n : ℕ) (l : List ℕ) → length l ≡ length (without n l) + times n l
unfolding keep
length_without n [] = omega (arith, times_none n)
length_without n (x ∷ l) = go (ℕ_discrete x n) (length_without n l)
  where
    go : Dec (x ≡ n) → length l ≡ length (without n l) + times n l
        → suc (length l) ≡ length (cond (not (eqb x n)) (x ∷ without n l) (without n l)) + times n (x ∷ l)
    go (yes e) r = rw (eq-eqb x n e, e, times_here n l) (omega arith)
    go (no d) r = rw (ne_eqb x n d, times_past n x l d) (omega arith)

pub pigeon : (n : ℕ) (l : List ℕ) → ((x : ℕ) → 0 < times x l → (x < n) × (times x l ≤ 1)) → length l ≤ n
pigeon zero [] each = omega arith
pigeon zero (x ∷ l) each = absurd (omega (arith, (each x (omega (arith, times_here x l))).0))
pigeon (suc n) l each =
    omega (arith, length_without n l, once (ℕ_discrete (times n l) 0), pigeon n (without n l) rest)
  where
    once : Dec (times n l ≡ 0) → times n l ≤ 1
    once (yes e) = omega arith
    once (no d) = (each n (omega arith)).1

    fewer : (x : ℕ) → times x (without n l) ≤ times x l
    fewer x =
        subst (λ (m : ℕ). m ≤ times x l) (sym (times_keep (λ y. not (eqb y n)) x l))
        (by_test (λ (m : ℕ). m ≤ times x l) (not (eqb x n)) (times x l) 0 (λ t. omega arith) (λ t. omega arith))

    rest : (x : ℕ) → 0 < times x (without n l) → (x < n) × (times x (without n l) ≤ 1)
    rest x h =
        let r = kept_in (λ y. not (eqb y n)) x l h in
        let e = each x r.0 in
        (omega (arith, e.0, apart r.1), omega (arith, e.1, fewer x))
      where
        apart : T (not (eqb x n)) → x ≢ n
        apart t e = T_not (eqb x n) t (T_true (eq-eqb x n e))

-- a column with one number at each of some places
module _ (x : ℕ) where
  set_all_other : (k : ℕ) (ms xs : List ℕ) → times k ms ≡ 0 → col (set_all xs ms x) k ≡ col xs k
  unfolding set_all fold
  set_all_other k [] xs h = refl
  set_all_other k (m ∷ ms) xs h = go (ℕ_discrete m k) (set_all_other k ms (set xs m x))
    where
      go : Dec (m ≡ k) → (times k ms ≡ 0 → col (set_all (set xs m x) ms x) k ≡ col (set xs m x) k) → col (set_all (set xs m x) ms x) k ≡ col xs k
      go (yes e) r = absurd (omega (arith, times_here k ms, subst (λ (z : ℕ). times k (z ∷ ms) ≡ 0) e h))
      go (no n) r = r (omega (arith, times_past k m ms n)) ∙ get_or-set_other xs m k x 0 (λ e. n (sym e))

  set_all_here : (k : ℕ) (ms xs : List ℕ) → 0 < times k ms → k < length xs → col (set_all xs ms x) k ≡ x
  unfolding set_all fold
  set_all_here k [] xs h s = absurd (omega (arith, times_none k))
  set_all_here k (m ∷ ms) xs h s =
      go (ℕ_discrete (times k ms) 0) (ℕ_discrete m k) (λ i. set_all_here k ms (set xs m x) i (simp length-set s))
    where
      go : Dec (times k ms ≡ 0) → Dec (m ≡ k) → (0 < times k ms → col (set_all (set xs m x) ms x) k ≡ x) → col (set_all (set xs m x) ms x) k ≡ x
      go (yes z) (yes e) r =
          set_all_other k ms (set xs m x) z ∙ ap (λ (y : ℕ). col (set xs y x) k) e ∙ get_or-set_same xs k x 0 s
      go (yes z) (no n) r = absurd (omega (arith, times_past k m ms n))
      go (no z) d r = r (omega arith)

  length_set_all : (ms xs : List ℕ) → length (set_all xs ms x) ≡ length xs
  unfolding set_all fold
  length_set_all [] xs = refl
  length_set_all (m ∷ ms) xs = length_set_all ms (set xs m x) ∙ simp length-set

clear : (l : List ℕ) → padded BLOCKS l ≡ padded BLOCKS (front (length l) (padded BLOCKS l))
clear l = ap (padded BLOCKS) (sym (front_padded BLOCKS l))

-- nodes are as few as the places
module _ (up ids : ℕ → ℕ) (base count : ℕ) (used : ℕ → Bool) (order heads : List ℕ) (nodes : Nodes up ids base count used order heads) (small : count ≤ BLOCKS) where
  few_listed : length order ≤ BLOCKS
  few_listed = pigeon BLOCKS order (λ x h. let r = nodes.list_only x h in (omega (arith, nodes.tabled x r.0), omega (arith, nodes.listed x r.0 r.1)))

  few_heads : length heads ≤ BLOCKS
  few_heads = pigeon BLOCKS heads (λ x h. let r = nodes.head_only x h in (omega (arith, nodes.tabled x r.0), omega (arith, nodes.headed x r.0 r.1)))

module _ (parents ids : List ℕ) (base count t : ℕ) (in_base : T (below (col parents) base t)) (in_table : t < count) where
  abbrev up : ℕ → ℕ
  up = col parents

  -- a new node
  module _ (g : Columns) (sound : Sound parents ids base count g) (bare : flag g.used t ≡ false) where
    abbrev used : ℕ → Bool
    used = flag g.used

    abbrev order : List ℕ
    order = front g.listed g.order

    abbrev heads : List ℕ
    heads = front g.tips g.heads

    abbrev ms : List ℕ
    ms = found up (col g.above) heads t

    abbrev over : ℕ
    over = nearest up used (up t)

    bare_T : T (not (used t))
    bare_T = T_false bare

    place : t < BLOCKS
    place = omega (arith, sound.small)

    ms_is : ms ≡ containing up used heads t
    ms_is = found_is parents ids base count g sound t in_base bare_T

    used_is : (x : ℕ) → flag (set g.used t true) x ≡ (used x || eqb x t)
    used_is x = go (ℕ_discrete x t)
      where
        go : Dec (x ≡ t) → flag (set g.used t true) x ≡ (used x || eqb x t)
        go (yes e) =
            rw e (get_or-set_same g.used t true false (omega (arith, place, sound.sized.used_size)) ∙ sym (ap (λ (b : Bool). used t || b) (eq-eqb t t refl) ∙ or_true (used t)))
        go (no n) =
            get_or-set_other g.used t x true false n ∙ sym (ap (λ (b : Bool). used x || b) (ne_eqb x t n) ∙ or_false (used x))

    bits_are : (x : ℕ) → row (set g.rows t (join_of (row g.rows) ms)) x ≡ cond (eqb x t) (join_of (row g.rows) (containing up used heads t)) (row g.rows x)
    bits_are x = go (ℕ_discrete x t)
      where
        go : Dec (x ≡ t)
            → row (set g.rows t (join_of (row g.rows) ms)) x ≡ cond (eqb x t) (join_of (row g.rows) (containing up used heads t)) (row g.rows x)
        go (yes e) =
            rw (e, eq-eqb t t refl, ← ms_is) (get_or-set_same g.rows t (join_of (row g.rows) ms) [] (omega (arith, place, sound.sized.rows_size)))
        go (no n) = rw (ne_eqb x t n) (get_or-set_other g.rows t x (join_of (row g.rows) ms) [] n)

    pub view_added : view (added parents ids t g) ≡ add_node up (col ids) t (view g)
    unfolding added add_node
    view_added =
        λ i. record {
          used = λ x. used_is x i;
          bits = λ x. bits_are x i;
          order = (front_padded BLOCKS (relist t ms order) ∙ ap (λ (l : List ℕ). relist t l order) ms_is) i;
          heads = (front_padded BLOCKS (rehead (col ids) t ms over heads) ∙ ap (λ (l : List ℕ). rehead (col ids) t l over heads) ms_is) i;
        }

    -- the node above t
    near : Nearest up sound.parents_fall used (up t) over
    near =
        nearest_says up sound.parents_fall used base sound.nodes.base_used (up t)
        (below_step up sound.parents_fall base t in_base (λ e. T_not (used t) bare_T (subst (λ (x : ℕ). T (used x)) e sound.nodes.base_used)))

    member : (x : ℕ) → 0 < times x ms → Holds up used t x
    member x h =
        containing_only up (col ids) sound.parents_fall base count used order heads sound.nodes t bare_T x
        (subst (λ (l : List ℕ). 0 < times x l) ms_is h)

    no_member : (x : ℕ) → times x ms ≡ 0 → Holds up used t x → ⊥
    no_member x e p =
        omega (arith, containing_has up (col ids) sound.parents_fall base count used order heads sound.nodes t bare_T x p, subst (λ (l : List ℕ). times x l ≡ 0) ms_is e)

    member_small : (x : ℕ) → 0 < times x ms → x < length g.above
    member_small x h = omega (arith, sound.nodes.tabled x (member x h).is_node, sound.small, sound.sized.above_size)

    above_new : col (set (set_all g.above ms t) t over) t ≡ over
    above_new = get_or-set_same (set_all g.above ms t) t over 0 (omega (arith, place, length_set_all t ms g.above, sound.sized.above_size))

    above_member : (x : ℕ) → x ≢ t → 0 < times x ms → col (set (set_all g.above ms t) t over) x ≡ t
    above_member x n h = get_or-set_other (set_all g.above ms t) t x over 0 n ∙ set_all_here t x ms g.above h (member_small x h)

    above_other : (x : ℕ) → x ≢ t → times x ms ≡ 0 → col (set (set_all g.above ms t) t over) x ≡ col g.above x
    above_other x n h = get_or-set_other (set_all g.above ms t) t x over 0 n ∙ set_all_other t x ms g.above h

    -- the node above stays, but for t and the members
    pub above_stays : (x : ℕ) → x ≢ t → (Holds up used t x → ⊥) → col (added parents ids t g).above x ≡ col g.above x
    unfolding added
    above_stays x n h = go (ℕ_discrete (times x ms) 0)
      where
        go : Dec (times x ms ≡ 0) → col (set (set_all g.above ms t) t over) x ≡ col g.above x
        go (yes z) = above_other x n z
        go (no z) = absurd (h (member x (omega arith)))

    falls_added : Falls (set (set_all g.above ms t) t over)
    falls_added k = go (ℕ_discrete k t) (ℕ_discrete (times k ms) 0)
      where
        go : Dec (k ≡ t) → Dec (times k ms ≡ 0) → col (set (set_all g.above ms t) t over) k ≤ pred k
        go (yes e) d = rw e (omega (arith, above_new, below_le up sound.parents_fall over (up t) near.above, sound.parents_fall t))
        go (no n) (yes z) = omega (arith, above_other k n z, sound.above_falls k)
        go (no n) (no z) =
            let h : 0 < times k ms = omega arith in
            omega (arith, above_member k n h, holds_past up sound.parents_fall used t k bare_T (member k h))

    tied_added : (x : ℕ) → T (used x || eqb x t) → x ≢ base
        → col (set (set_all g.above ms t) t over) x ≡ nearest up (λ y. used y || eqb y t) (up x)
    tied_added x u d = go (ℕ_discrete x t) (ℕ_discrete (times x ms) 0)
      where
        was : x ≢ t → T (used x)
        was n = ⊎_elim (λ v. v) (λ e. absurd (n (eqb→eq x t e))) (either (used x) (eqb x t) u)

        go : Dec (x ≡ t) → Dec (times x ms ≡ 0) → col (set (set_all g.above ms t) t over) x ≡ nearest up (λ y. used y || eqb y t) (up x)
        go (yes e) m =
            rw e (above_new ∙ sym (near_new up (col ids) sound.parents_fall base count (view g) sound.nodes t in_base in_table bare_T))
        go (no n) (yes z) =
            above_other x n z ∙ sound.tied x (was n) d
            ∙ sym (near_other up (col ids) sound.parents_fall base count (view g) sound.nodes t in_base in_table bare_T x (was n) d (no_member x z))
        go (no n) (no z) =
            let h : 0 < times x ms = omega arith in
            above_member x n h ∙ sym (near_member up (col ids) sound.parents_fall base count (view g) sound.nodes t in_base in_table bare_T x (member x h))

    sizes : (x : ℕ) → x < BLOCKS → length (row (set g.rows t (join_of (row g.rows) ms)) x) ≡ WORDS
    sizes x l =
        ap length (bits_are x)
        ∙ by_test (λ (v : List ℕ). length v ≡ WORDS) (eqb x t) (join_of (row g.rows) (containing up used heads t)) (row g.rows x)
        (λ e. length_join (row g.rows) (containing up used heads t)) (λ e. sound.sized.row_size x l)

    module _ (apart : (y : ℕ) → T (used y) → col ids y ≢ col ids t) where
      nodes_after : Nodes up (col ids) base count (view (added parents ids t g)).used (view (added parents ids t g)).order (view (added parents ids t g)).heads
      nodes_after =
          subst (λ (h : Graph). Nodes up (col ids) base count h.used h.order h.heads) (sym view_added)
          (added_nodes up (col ids) sound.parents_fall base count (view g) sound.nodes t in_base in_table bare_T apart)

      list_fits : (added parents ids t g).listed ≤ BLOCKS
      list_fits =
          omega (arith, few_listed up (col ids) base count _ _ _ nodes_after sound.small, length_front (added parents ids t g).listed (added parents ids t g).order)

      heads_fit : (added parents ids t g).tips ≤ BLOCKS
      heads_fit =
          omega (arith, few_heads up (col ids) base count _ _ _ nodes_after sound.small, length_front (added parents ids t g).tips (added parents ids t g).heads)

      pub sound_added : Sound parents ids base count (added parents ids t g)
      unfolding added
      sound_added =
          record {
            parents_fall = sound.parents_fall;
            above_falls = falls_added;
            nodes = nodes_after;
            small = sound.small;
            tied = λ x u d. tied_added x (subst T (used_is x) u) d ∙ ap (λ (f : ℕ → Bool). nearest up f (up x)) (sym (fun_ext used_is));
            listed_fits = list_fits;
            tips_fit = heads_fit;
            sized = record {
              used_size = simp length-set sound.sized.used_size;
              above_size = simp length-set (length_set_all t ms g.above ∙ sound.sized.above_size);
              rows_size = simp length-set sound.sized.rows_size;
              row_size = sizes;
              order_size = length_padded BLOCKS (relist t ms order) list_fits;
              heads_size = length_padded BLOCKS (rehead (col ids) t ms over heads) heads_fit;
            };
            order_clear = clear (relist t ms order);
            heads_clear = clear (rehead (col ids) t ms over heads);
          }

  -- a bit for t, which has a node
  module _ (j : ℕ) (h : Columns) (sound : Sound parents ids base count h) (here : T (flag h.used t)) where
    bits_after : (x : ℕ)
        → row (marked h.above base j t h.rows) x ≡ cond (flag h.used x && below up x t) (put (row h.rows x) j) (row h.rows x)
    bits_after x =
        marked_bits parents h.above sound.parents_fall sound.above_falls (flag h.used) base sound.nodes.base_used sound.nodes.inside
        (λ y u. omega (arith, sound.nodes.tabled y u, sound.small)) sound.tied j t h.rows here sound.sized.rows_size x

    pub view_marked : view (with_rows h (marked h.above base j t h.rows)) ≡ mark up t j (view h)
    unfolding mark
    view_marked =
        λ i. record { used = flag h.used; bits = λ x. bits_after x i; order = front h.listed h.order; heads = front h.tips h.heads }

    pub sound_marked : Sound parents ids base count (with_rows h (marked h.above base j t h.rows))
    sound_marked =
        record {
          parents_fall = sound.parents_fall;
          above_falls = sound.above_falls;
          nodes = sound.nodes;
          small = sound.small;
          tied = sound.tied;
          listed_fits = sound.listed_fits;
          tips_fit = sound.tips_fit;
          sized = record {
            used_size = sound.sized.used_size;
            above_size = sound.sized.above_size;
            rows_size = length_marked h.above sound.above_falls base j t h.rows ∙ sound.sized.rows_size;
            row_size = λ x l.
                ap length (bits_after x)
                ∙ by_test (λ (v : List ℕ). length v ≡ WORDS) (flag h.used x && below up x t) (put (row h.rows x) j) (row h.rows x)
                (λ e. length_put (row h.rows x) j ∙ sound.sized.row_size x l) (λ e. sound.sized.row_size x l);
            order_size = sound.sized.order_size;
            heads_size = sound.sized.heads_size;
          };
          order_clear = sound.order_clear;
          heads_clear = sound.heads_clear;
        }

  -- a vote
  module _ (g : Columns) (sound : Sound parents ids base count g) (apart : (y : ℕ) → T (flag g.used y) → y ≢ t → col ids y ≢ col ids t) where
    after : flag g.used t ≡ false → Sound parents ids base count (added parents ids t g)
    after e =
        sound_added g sound e (λ y u. apart y u (λ q. T_not (flag g.used t) (T_false e) (subst (λ (x : ℕ). T (flag g.used x)) q u)))

    here_after : T (flag (added parents ids t g).used t)
    unfolding added
    here_after = T_true (get_or-set_same g.used t true false (omega (arith, sound.small, sound.sized.used_size)))

    pub insertable : Insertable parents ids t g
    insertable =
        record {
          above_falls = sound.above_falls;
          addable = λ e. record {
            parents_fall = sound.parents_fall;
            above_falls = sound.above_falls;
            listed_fits = sound.listed_fits;
            tips_fit = sound.tips_fit;
            list_fits = (after e).listed_fits;
            heads_fit = (after e).tips_fit;
            heads_clear = sound.heads_clear;
          };
          added_falls = λ e. (after e).above_falls;
        }

    module _ (j : ℕ) where
      abbrev voted : Columns → Columns
      voted h = with_rows h (marked h.above base j t h.rows)

      pub view_insert : view (inserted parents ids base t j g) ≡ insert up (col ids) t j (view g)
      unfolding inserted insert
      view_insert = go (flag g.used t) refl
        where
          go : (b : Bool) → flag g.used t ≡ b → view (voted (cond b g (added parents ids t g))) ≡ mark up t j (cond b (view g) (add_node up (col ids) t (view g)))
          go true e = view_marked j g sound (T_true e)
          go false e = view_marked j (added parents ids t g) (after e) here_after ∙ ap (mark up t j) (view_added g sound e)

      pub sound_inserted : Sound parents ids base count (inserted parents ids base t j g)
      unfolding inserted
      sound_inserted = go (flag g.used t) refl
        where
          go : (b : Bool) → flag g.used t ≡ b → Sound parents ids base count (voted (cond b g (added parents ids t g)))
          go true e = sound_marked j g sound (T_true e)
          go false e = sound_marked j (added parents ids t g) (after e) here_after
