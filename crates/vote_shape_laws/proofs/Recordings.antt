-- Recording a pair keeps the shape rules of the recorded votes: a second pair by itself, a first one with what `insert` makes of the
-- vote graph.
use mathlib.Core.Bool.{Bool, true, false, ◌&&◌, ◌||◌}
use mathlib.Core.List.{List}
use mathlib.Core.Path.{◌≡◌, refl, sym, ap, ◌∙◌}
use mathlib.Core.Logic.{◌≢◌}
use Prim.Native.Nat.{ℕ, ◌+◌, ◌<◌}
use native.Mathlib.Decide.{ℕ_discrete}
use native.Mathlib.Omega.{arith}
use lib.Dec.{T, eqb, ltb}
use lib.ListN.{set, length}
use lib.Seq.{get_or-set_same, get_or-set_other}
use borrow.Author.Tests.{eq-eqb, ne_eqb}
use Rattle.sizes.specs.Sizes.{VOTES}
use Rattle.layouts.specs.Layout.{index_place, entry}
use Rattle.loops.proofs.Tests.{or_false}
use Rattle.grandpa.specs.Tree.{below}
use Rattle.grandpa.specs.Vote.{lands, equivocated}
use Rattle.bitfield.specs.Bits.{has, put}
use Rattle.bitfield.proofs.Sets.{has_put, length_put}
use Rattle.graph.specs.Shape.{Targets, with_vote, Bits, Voted, UsedOnly}
use Rattle.nodes.specs.Nodes.{col, flag, row}
use Rattle.tracker.specs.declared.Votes.{Votes}
use Rattle.tracker.specs.Recorded.{cast_of, cast}
use Rattle.tracker.specs.Votes.{Wide, with_first, with_second}
use Rattle.vote_shape_laws.specs.Recorded.{Recorded}
use Rattle.vote_shape_laws.proofs.Casts.{lands_cast, twice_cast, aim_cast, cast_aim}
use Rattle.vote_shape_laws.proofs.Keeps.{written_first, written_second, tidy_first, tidy_second}

module _ (v : Votes) (w : Wide v) (j : ℕ) (h : j < VOTES) where
  -- the votes with a first one, as the vote graph has them
  pub cast_first : (place signature i : ℕ) → cast (with_first v j place signature) i ≡ with_vote (cast v) j place i
  unfolding cast
  cast_first place signature i = go (ℕ_discrete i j)
    where
      go : Dec (i ≡ j) → cast_of (col (set v.counts j 1) i) (col (set v.first_block j place) i) ≡ with_vote (λ k. cast_of (col v.counts k) (col v.first_block k)) j place i
      go (yes e) =
          rw (e, eq-eqb j j refl, get_or-set_same v.counts j 1 0 (omega (arith, w.counts_size)), get_or-set_same v.first_block j place 0 (omega (arith, w.first_block_size)))
      go (no n) = rw (ne_eqb i j n, get_or-set_other v.counts j i 1 0 n, get_or-set_other v.first_block j i place 0 n)

  same_first : (place signature i : ℕ) → col v.counts j ≡ 0 → equivocated (cast v i) ≡ equivocated (cast (with_first v j place signature) i)
  same_first place signature i n = twice_cast v i ∙ go (ℕ_discrete i j) ∙ sym (twice_cast (with_first v j place signature) i)
    where
      go : Dec (i ≡ j) → ltb 1 (col v.counts i) ≡ ltb 1 (col (set v.counts j 1) i)
      go (yes e) = rw (e, n, get_or-set_same v.counts j 1 0 (omega (arith, w.counts_size)))
      go (no d) = rw (get_or-set_other v.counts j i 1 0 d)

  module _ (target number signature : ℕ) (n : col v.counts j ≡ 1) where
    abbrev u : Votes
    u = with_second v j target number signature

    here : col u.counts j ≡ 2
    here = get_or-set_same v.counts j 2 0 (omega (arith, w.counts_size))

    spoken : (i : ℕ) → ltb 0 (col v.counts i) ≡ ltb 0 (col u.counts i)
    spoken i = go (ℕ_discrete i j)
      where
        go : Dec (i ≡ j) → ltb 0 (col v.counts i) ≡ ltb 0 (col u.counts i)
        go (yes e) = rw (e, n, here)
        go (no d) = rw (get_or-set_other v.counts j i 2 0 d)

    -- the first votes stay
    pub lands_second : (up : ℕ → ℕ) (x i : ℕ) → lands up x (cast v i) ≡ lands up x (cast u i)
    lands_second up x i =
        lands_cast v i up x ∙ ap (λ (b : Bool). b && below up x (col v.first_block i)) (spoken i) ∙ sym (lands_cast u i up x)

    apart : (i : ℕ) → (0 < col v.counts i → 0 < col u.counts i) × (0 < col u.counts i → 0 < col v.counts i)
    apart i = go (ℕ_discrete i j)
      where
        go : Dec (i ≡ j) → (0 < col v.counts i → 0 < col u.counts i) × (0 < col u.counts i → 0 < col v.counts i)
        go (yes e) = rw (e, n, here) (λ q. omega arith, λ q. omega arith)
        go (no d) = let z = get_or-set_other v.counts j i 2 0 d in (λ q. omega (arith, z), λ q. omega (arith, z))

    pub targets_second : (i x : ℕ) → Targets (cast v i) x → Targets (cast u i) x
    targets_second i x t = let a = aim_cast v i x t in cast_aim u i x ((apart i).0 a.0) a.1

    pub second_targets : (i x : ℕ) → Targets (cast u i) x → Targets (cast v i) x
    second_targets i x t = let a = aim_cast u i x t in cast_aim v i x ((apart i).1 a.0) a.1

    -- and the signer has equivocated
    pub twice_second : (i : ℕ) → (equivocated (cast v i) || eqb i j) ≡ equivocated (cast u i)
    twice_second i = go (ℕ_discrete i j)
      where
        go : Dec (i ≡ j) → (equivocated (cast v i) || eqb i j) ≡ equivocated (cast u i)
        go (yes e) = rw (twice_cast v i, twice_cast u i, e, n, here, eq-eqb j j refl)
        go (no d) = rw (twice_cast v i, twice_cast u i, ne_eqb i j d, get_or-set_other v.counts j i 2 0 d) (or_false (ltb 1 (col v.counts i)))

module _ (size : ℕ) (parents : List ℕ) (base : ℕ) (used : List Bool) (rows : List (List ℕ)) (v : Votes) (equivocations entries : List ℕ)
    (count : ℕ) (w : Wide v) (r : Recorded size parents base used rows v equivocations entries count) (j : ℕ) (h : j < VOTES) (l : index_place j < size) where
  pub recorded_first : (place signature : ℕ) (nodes : List Bool) (bits : List (List ℕ)) → col v.counts j ≡ 0 → T (flag nodes base)
      → Voted (cast (with_first v j place signature)) (flag nodes) → UsedOnly base (cast (with_first v j place signature)) (flag nodes)
      → Bits (col parents) (cast (with_first v j place signature)) (flag nodes) (row bits)
      → Recorded size parents base nodes bits (with_first v j place signature) equivocations (set entries count (entry j 0)) (count + 1)
  recorded_first place signature nodes bits n b q o t =
      record {
        tidy = tidy_first size v w j h l r.tidy place signature n;
        base_used = b;
        nodes_voted = q;
        nodes_only = o;
        bits = t;
        equivocators = (r.equivocators.0, λ i. r.equivocators.1 i ∙ same_first v w j h place signature i n);
        history = written_first v w.counts_size entries count r.history j place signature h n;
      }

  pub recorded_second : (target number signature : ℕ) → col v.counts j ≡ 1
      → Recorded size parents base used rows (with_second v j target number signature) (put equivocations j) (set entries count (entry j 1)) (count + 1)
  recorded_second target number signature n =
      record {
        tidy = tidy_second size v w j h l r.tidy target number signature n;
        base_used = r.base_used;
        nodes_voted = record { target_used = λ i x t. r.nodes_voted.target_used i x (second_targets v w j h target number signature n i x t) };
        nodes_only = λ x u d. let q = r.nodes_only x u d in (q.0, targets_second v w j h target number signature n q.0 x q.1);
        bits = record {
          words = r.bits.words;
          told = λ x u i. r.bits.told x u i ∙ lands_second v w j h target number signature n (col parents) x i;
        };
        equivocators = (
          length_put equivocations j ∙ r.equivocators.0,
          λ i. has_put equivocations j i (omega (arith, r.equivocators.0)) ∙ ap (λ (b : Bool). b || eqb i j) (r.equivocators.1 i)
              ∙ twice_second v w j h target number signature n i,
        );
        history = written_second v w.counts_size entries count r.history j target number signature h n;
      }
