-- The columns of an opened graph are sound.
use mathlib.Core.Bool.{Bool, true, false}
use mathlib.Core.List.{List, [], ◌∷◌}
use mathlib.Core.Path.{◌≡◌, refl, sym, ap, subst, ◌∙◌}
use Prim.Native.Nat.{ℕ, zero, suc, ◌≤◌, ◌<◌}
use native.Mathlib.Decide.{ℕ_discrete}
use native.Mathlib.Omega.{arith}
use lib.Dec.{T}
use lib.ListN.{get_or, set, length, length-set, length-replicate, replicate, get_or-replicate}
use lib.Seq.{get_or-set_same, get_or-set_other}
use Rattle.sizes.specs.Sizes.{WORDS, BLOCKS}
use Rattle.loops.specs.Listing.{times, front}
use Rattle.loops.proofs.Tests.{T_true}
use Rattle.loops.proofs.Listings.{times_here, times_past, times_none}
use Rattle.columns.specs.Lists.{padded}
use Rattle.grandpa.specs.Tree.{below}
use Rattle.grandpa.proofs.Trees.{below_refl}
use Rattle.graph.specs.Shape.{Nodes}
use Rattle.nodes.specs.Nodes.{col, flag, Falls}
use Rattle.nodes.specs.Columns.{Sound}
use Rattle.vote_insert.specs.Insert.{opened}

blank : {A : Type 0} (x : A) (n k : ℕ) → get_or (replicate n x) k x ≡ x
blank x zero k = refl
blank x (suc n) zero = refl
blank x (suc n) (suc k) = blank x n k

module _ (parents ids : List ℕ) (falls : Falls parents) (base count : ℕ) (in_table : base < count) (small : count ≤ BLOCKS) where
  abbrev used : ℕ → Bool
  used = flag (set (replicate BLOCKS false) base true)

  here : T (used base)
  here = T_true (get_or-set_same (replicate BLOCKS false) base true false (omega (arith, length-replicate BLOCKS false)))

  only : (x : ℕ) → T (used x) → x ≡ base
  only x u = go (ℕ_discrete x base)
    where
      go : Dec (x ≡ base) → x ≡ base
      go (yes e) = e
      go (no n) = absurd (subst T (get_or-set_other (replicate BLOCKS false) base x true false n ∙ blank false BLOCKS x) u)

  head : (x : ℕ) → 0 < times x (base ∷ []) → x ≡ base
  head x h = go (ℕ_discrete base x)
    where
      go : Dec (base ≡ x) → x ≡ base
      go (yes e) = sym e
      go (no n) = absurd (omega (arith, times_past x base [] n, times_none x))

  nodes : Nodes (col parents) (col ids) base count used [] (base ∷ [])
  nodes =
      record {
        base_used = here;
        inside = λ x u. subst (λ (y : ℕ). T (below (col parents) base y)) (sym (only x u)) (below_refl (col parents) falls base);
        tabled = λ x u. omega (arith, only x u);
        listed = λ x u n. absurd (n (only x u));
        list_only = λ x h. absurd (omega (arith, times_none x));
        headed = λ x u tip. subst (λ (y : ℕ). times y (base ∷ []) ≡ 1) (sym (only x u)) (omega (arith, times_here base [], times_none base));
        head_only = λ x h. (
          subst (λ (y : ℕ). T (used y)) (sym (head x h)) here,
          λ y u l. only y u ∙ sym (head x h),
        );
        rising = ((λ y h. absurd (omega (arith, times_none y))), tt);
      }

  pub sound_opened : Sound parents ids base count (opened base)
  unfolding opened front padded
  sound_opened =
      record {
        parents_fall = falls;
        above_falls = λ k. omega (arith, blank {A = ℕ} 0 BLOCKS k);
        nodes = nodes;
        small = small;
        tied = λ x u n. absurd (n (only x u));
        listed_fits = omega arith;
        tips_fit = omega arith;
        sized = record {
          used_size = simp length-set;
          above_size = refl;
          rows_size = refl;
          row_size = λ x h. ap length (get_or-replicate BLOCKS x (replicate WORDS 0) [] h);
          order_size = refl;
          heads_size = refl;
        };
        order_clear = refl;
        heads_clear = refl;
      }
