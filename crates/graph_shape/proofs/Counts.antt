-- What it means that the counts are within sizes.
use mathlib.Core.Bool.{Bool}
use mathlib.Core.List.{List}
use Prim.Native.Nat.{ℕ, ◌≤◌, ◌<◌}
use lib.Dec.{T, leb, ltb, leb→le, ltb→lt}
use borrow.Author.Tests.{le-leb, lt-ltb}
use Rattle.sizes.specs.Sizes.{BLOCKS}
use Rattle.loops.proofs.Tests.{T_true, both, left_of, right_of}
use Rattle.nodes.specs.Nodes.{flag}
use Rattle.graph_shape.specs.Graphed.{counted}

module _ (count base : ℕ) (used : List Bool) (listed tips : ℕ) where
  pub record Counts : Type 0 where
    pub few : count ≤ BLOCKS
    pub listed_fits : listed ≤ BLOCKS
    pub tips_fit : tips ≤ BLOCKS
    pub in_table : base < count
    pub base_used : T (flag used base)

  pub counted_says : T (counted count base used listed tips) → Counts
  unfolding counted
  counted_says t =
      let a = right_of (leb count BLOCKS) _ t in
      let b = right_of (leb listed BLOCKS) _ a in
      let c = right_of (leb tips BLOCKS) _ b in
      record {
        few = leb→le _ _ (left_of (leb count BLOCKS) _ t);
        listed_fits = leb→le _ _ (left_of (leb listed BLOCKS) _ a);
        tips_fit = leb→le _ _ (left_of (leb tips BLOCKS) _ b);
        in_table = ltb→lt _ _ (left_of (ltb base count) _ c);
        base_used = right_of (ltb base count) _ c;
      }

  pub says_counted : Counts → T (counted count base used listed tips)
  unfolding counted
  says_counted c =
      both (leb count BLOCKS) _ (T_true (le-leb _ _ c.few))
      (both (leb listed BLOCKS) _ (T_true (le-leb _ _ c.listed_fits))
      (both (leb tips BLOCKS) _ (T_true (le-leb _ _ c.tips_fit))
      (both (ltb base count) _ (T_true (lt-ltb _ _ c.in_table)) c.base_used)))
