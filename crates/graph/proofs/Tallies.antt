-- The bits of a block are the first votes at or below it, whether it has a node or not.
use mathlib.Core.Bool.{Bool, true, false, cond, not, ◌||◌}
use mathlib.Core.List.{List, [], ◌∷◌, ◌++◌}
use mathlib.Core.Path.{◌≡◌, refl, sym, ap, ap₂, subst, ◌∙◌}
use mathlib.Core.Logic.{◌≢◌, ◌⊎◌, inl, inr, ⊎_elim}
use Prim.Native.Nat.{ℕ, zero, suc, pred, ◌≤◌, ◌<◌}
use native.Mathlib.Omega.{arith}
use lib.Dec.{T, eqb}
use lib.ListN.{length, replicate}
use Rattle.sizes.specs.Sizes.{WORDS}
use Rattle.loops.specs.Listing.{times, fold, some_of}
use Rattle.loops.proofs.Tests.{by_test, same_test, true_T, false_T}
use Rattle.loops.proofs.Listings.{times_here, times_more, some_at, some_intro}
use Rattle.grandpa.specs.Tree.{below}
use Rattle.grandpa.specs.Vote.{Vote, silent, once, twice, lands}
use Rattle.grandpa.proofs.Trees.{below_refl, below_trans}
use Rattle.bitfield.specs.Bits.{has, joined}
use Rattle.bitfield.proofs.Sets.{has_joined, has_none, length_joined}
use Rattle.graph.specs.Search.{containing}
use Rattle.graph.specs.Graph.{Graph, no_bits, join_of, tally}
use Rattle.graph.specs.Shape.{Holds, Nodes, Bits, Voted, Targets, Shape}
use Rattle.graph.proofs.Found.{containing_only, containing_over}

-- joined bits
module _ (bits : ℕ → List ℕ) where
  joins : (ns : List ℕ) (v : List ℕ) → length v ≡ WORDS → ((n : ℕ) → 0 < times n ns → length (bits n) ≡ WORDS) → (j : ℕ)
      → has (fold (λ n v. joined v (bits n)) ns v) j ≡ (has v j || some_of (λ n. has (bits n) j) ns)
  unfolding fold some_of
  joins [] v e wide j = or_none (has v j)
    where
      or_none : (b : Bool) → b ≡ (b || false)
      or_none true = refl
      or_none false = refl
  joins (n ∷ ns) v e wide j =
      let w = wide n (omega (arith, times_here n ns)) in
      joins ns (joined v (bits n)) (length_joined v (bits n) ∙ e) (λ m h. wide m (times_more m n ns h)) j
      ∙ ap (λ (b : Bool). b || some_of (λ n. has (bits n) j) ns) (has_joined v (bits n) (e ∙ sym w) j)
      ∙ or_assoc (has v j) (has (bits n) j) (some_of (λ n. has (bits n) j) ns)
    where
      or_assoc : (a b c : Bool) → ((a || b) || c) ≡ (a || (b || c))
      or_assoc true b c = refl
      or_assoc false b c = refl

  pub has_join : (ns : List ℕ) → ((n : ℕ) → 0 < times n ns → length (bits n) ≡ WORDS) → (j : ℕ)
      → has (join_of bits ns) j ≡ some_of (λ n. has (bits n) j) ns
  unfolding join_of
  has_join ns wide j = joins ns no_bits refl wide j ∙ ap (λ (b : Bool). b || some_of (λ n. has (bits n) j) ns) (has_none WORDS j)

  lengths : (ns : List ℕ) (v : List ℕ) → length v ≡ WORDS → length (fold (λ n v. joined v (bits n)) ns v) ≡ WORDS
  unfolding fold
  lengths [] v e = e
  lengths (n ∷ ns) v e = lengths ns (joined v (bits n)) (length_joined v (bits n) ∙ e)

  pub length_join : (ns : List ℕ) → length (join_of bits ns) ≡ WORDS
  unfolding join_of
  length_join ns = lengths ns no_bits refl

pub lands_target : (up : ℕ → ℕ) (b : ℕ) (v : Vote) → T (lands up b v) → (x : ℕ) × Targets v x × T (below up b x)
lands_target up b silent t = absurd t
lands_target up b (once x) t = (x, refl, t)
lands_target up b (twice x) t = (x, refl, t)

pub lands_above : (up : ℕ → ℕ) (falls : (k : ℕ) → up k ≤ pred k) (a b : ℕ) (v : Vote) → T (below up a b) → T (lands up b v) → T (lands up a v)
lands_above up falls a b silent l t = t
lands_above up falls a b (once x) l t = below_trans up falls a b x l t
lands_above up falls a b (twice x) l t = below_trans up falls a b x l t

pub target_lands : (up : ℕ → ℕ) (b x : ℕ) (v : Vote) → Targets v x → T (below up b x) → T (lands up b v)
target_lands up b x silent t l = absurd t
target_lands up b x (once y) t l = subst (λ (z : ℕ). T (below up b z)) (sym t) l
target_lands up b x (twice y) t l = subst (λ (z : ℕ). T (below up b z)) (sym t) l

module _ (up ids : ℕ → ℕ) (falls : (k : ℕ) → up k ≤ pred k) (base count : ℕ) (cast : ℕ → Vote) (g : Graph) (shape : Shape up ids base count cast g) where
  -- the joined bits of the nodes whose edge holds a bare block
  pub join_told : (b : ℕ) → T (not (g.used b)) → (j : ℕ) → has (join_of g.bits (containing up g.used g.heads b)) j ≡ lands up b (cast j)
  join_told b bare j =
      has_join g.bits ns (λ n h. shape.rows.words n (only n h).is_node) j
      ∙ same_test (some_of (λ n. has (g.bits n) j) ns) (lands up b (cast j)) to fro
    where
      ns : List ℕ
      ns = containing up g.used g.heads b

      only : (n : ℕ) → 0 < times n (containing up g.used g.heads b) → Holds up g.used b n
      only = containing_only up ids falls base count g.used g.order g.heads shape.nodes b bare

      to : T (some_of (λ n. has (g.bits n) j) (containing up g.used g.heads b)) → T (lands up b (cast j))
      to t =
          let r = some_at (λ n. has (g.bits n) j) (containing up g.used g.heads b) t in
          let p = only r.0 r.1 in
          lands_above up falls b r.0 (cast j) p.under (subst T (shape.rows.told r.0 p.is_node j) r.2)

      fro : T (lands up b (cast j)) → T (some_of (λ n. has (g.bits n) j) (containing up g.used g.heads b))
      fro t =
          let x = lands_target up b (cast j) t in
          let r = containing_over up ids falls base count g.used g.order g.heads shape.nodes b bare x.0 (shape.voted.target_used j x.0 x.1) x.2 in
          some_intro (λ n. has (g.bits n) j) (containing up g.used g.heads b) r.0 r.1
          (subst T (sym (shape.rows.told r.0 r.2.is_node j)) (target_lands up r.0 x.0 (cast j) x.1 r.3))

  pub tally_told : (b j : ℕ) → has (tally up g b) j ≡ lands up b (cast j)
  unfolding tally
  tally_told b j =
      by_test (λ (v : List ℕ). has v j ≡ lands up b (cast j)) (g.used b) (g.bits b) _
      (λ u. shape.rows.told b u j) (λ u. join_told b u j)
