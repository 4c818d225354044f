-- Unused places stay 0: with `sound_inserted` and `sound_opened` this is the whole shape test.
use mathlib.Core.Bool.{Bool, true, false, cond, not, ◌&&◌, ◌||◌}
use mathlib.Core.List.{List, []}
use mathlib.Core.Path.{◌≡◌, refl, sym, ap, subst, ◌∙◌}
use mathlib.Core.Logic.{◌≢◌}
use Prim.Native.Nat.{ℕ, zero, suc, ◌<◌}
use native.Mathlib.Omega.{arith}
use lib.Dec.{T, eqb, T_not}
use lib.ListN.{get_or, replicate, get_or-replicate}
use borrow.Author.Tests.{eq-eqb, ne_eqb}
use Rattle.sizes.specs.Sizes.{BLOCKS}
use Rattle.loops.proofs.Tests.{T_true, T_false, false_T, true_T, in_right, in_left}
use Rattle.loops.specs.Listing.{front}
use Rattle.grandpa.specs.Tree.{below}
use Rattle.grandpa.proofs.Trees.{below_le}
use Rattle.bitfield.specs.Bits.{put}
use Rattle.graph.specs.Search.{containing}
use Rattle.graph.specs.Graph.{Graph, no_bits, join_of, add_node, mark}
use Rattle.graph.specs.Shape.{Holds}
use Rattle.graph.proofs.Climbs.{holds_past}
use Rattle.nodes.specs.Nodes.{col, flag, row}
use Rattle.nodes.specs.Columns.{Columns, Sound}
use Rattle.graph_shape.specs.Graphed.{Clear}
use Rattle.vote_insert.specs.Insert.{opened, added, marked, with_rows, inserted}
use Rattle.vote_insert.proofs.Keeps.{view_added, above_stays, sound_added, view_marked}

blank : {A : Type 0} (x : A) (n k : ℕ) → get_or (replicate n x) k x ≡ x
blank x zero k = refl
blank x (suc n) zero = refl
blank x (suc n) (suc k) = blank x n k

pub clear_opened : (base : ℕ) → Clear base (opened base)
unfolding opened
clear_opened base =
    record {
      base_above = blank {A = ℕ} 0 BLOCKS base;
      bare_above = λ k n. blank {A = ℕ} 0 BLOCKS k;
      bare_rows = λ k h n. get_or-replicate BLOCKS k no_bits [] h;
    }

module _ (parents ids : List ℕ) (base count t : ℕ) (in_base : T (below (col parents) base t)) (in_table : t < count) where
  -- a bit goes to nodes alone
  bare_bits : (j : ℕ) (h : Columns) → Sound parents ids base count h → T (flag h.used t) → (k : ℕ) → T (not (flag h.used k))
      → row (marked h.above base j t h.rows) k ≡ row h.rows k
  unfolding mark
  bare_bits j h s u k n =
      ap (λ (g : Graph). g.bits k) (view_marked parents ids base count t in_base in_table j h s u)
      ∙ ap (λ (b : Bool). cond (b && below (col parents) k t) (put (row h.rows k) j) (row h.rows k)) (false_T (flag h.used k) n)

  module _ (g : Columns) (sound : Sound parents ids base count g) (clear : Clear base g)
      (apart : (y : ℕ) → T (flag g.used y) → y ≢ t → col ids y ≢ col ids t) (j : ℕ) where
    -- a new node
    module _ (bare : flag g.used t ≡ false) where
      not_t : (y : ℕ) → T (flag g.used y) → y ≢ t
      not_t y u q = T_not (flag g.used t) (T_false bare) (subst (λ (x : ℕ). T (flag g.used x)) q u)

      sound_next : Sound parents ids base count (added parents ids t g)
      sound_next = sound_added parents ids base count t in_base in_table g sound bare (λ y u. apart y u (not_t y u))

      used_next : (k : ℕ) → flag (added parents ids t g).used k ≡ (flag g.used k || eqb k t)
      unfolding add_node
      used_next k = ap (λ (h : Graph). h.used k) (view_added parents ids base count t in_base in_table g sound bare)

      bits_next : (k : ℕ) → k ≢ t → row (added parents ids t g).rows k ≡ row g.rows k
      unfolding add_node
      bits_next k n =
          let e : row (added parents ids t g).rows k ≡ cond (eqb k t) (join_of (row g.rows) (containing (col parents) (flag g.used) (front g.tips g.heads) t)) (row g.rows k) =
          ap (λ (h : Graph). h.bits k) (view_added parents ids base count t in_base in_table g sound bare) in
          rw (ne_eqb k t n) at e

      here_next : T (flag (added parents ids t g).used t)
      here_next = T_true (used_next t ∙ true_T _ (in_right (flag g.used t) _ (T_true (eq-eqb t t refl))))

      -- a place without a node had none before, and is not t
      was_bare : (k : ℕ) → T (not (flag (added parents ids t g).used k)) → T (not (flag g.used k)) × (k ≢ t)
      was_bare k n = (
        go (flag g.used k) refl,
        λ q. T_not (flag (added parents ids t g).used k) n (subst (λ (x : ℕ). T (flag (added parents ids t g).used x)) (sym q) here_next),
      )
        where
          go : (b : Bool) → flag g.used k ≡ b → T (not (flag g.used k))
          go false e = T_false e
          go true e = absurd (T_not (flag (added parents ids t g).used k) n (T_true (used_next k ∙ true_T _ (in_left (flag g.used k) _ (T_true e)))))

      base_free : Holds (col parents) (flag g.used) t base → ⊥
      base_free p =
          omega (arith, holds_past (col parents) sound.parents_fall (flag g.used) t base (T_false bare) p, below_le (col parents) sound.parents_fall base t in_base)

      clear_added : Clear base (with_rows (added parents ids t g) (marked (added parents ids t g).above base j t (added parents ids t g).rows))
      clear_added =
          record {
            base_above = above_stays parents ids base count t in_base in_table g sound bare base (not_t base sound.nodes.base_used) base_free ∙ clear.base_above;
            bare_above = λ k n. let r = was_bare k n in
                above_stays parents ids base count t in_base in_table g sound bare k r.1 (λ p. T_not (flag g.used k) r.0 p.is_node) ∙ clear.bare_above k r.0;
            bare_rows = λ k h n. let r = was_bare k n in
                bare_bits j (added parents ids t g) sound_next here_next k n ∙ bits_next k r.1 ∙ clear.bare_rows k h r.0;
          }

    pub clear_inserted : Clear base (inserted parents ids base t j g)
    unfolding inserted
    clear_inserted = go (flag g.used t) refl
      where
        go : (b : Bool) → flag g.used t ≡ b
            → Clear base (with_rows (cond b g (added parents ids t g)) (marked (cond b g (added parents ids t g)).above base j t (cond b g (added parents ids t g)).rows))
        go true e =
            record {
              base_above = clear.base_above;
              bare_above = clear.bare_above;
              bare_rows = λ k h n. bare_bits j g sound (T_true e) k n ∙ clear.bare_rows k h n;
            }
        go false e = clear_added e
