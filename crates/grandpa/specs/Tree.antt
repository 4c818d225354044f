-- Document 01, "Sizes": the blocks as a tree. A block is its place in the table. Place 0 is the root; every other block
-- names an earlier one as parent and has the parent's number plus 1. Below means further from the root.
use Rattle.std.specs.Prelude.{Bool, ◌||◌, ◌&&◌, ◌≡◌, ℕ, zero, suc, pred, ◌+◌, ◌≤◌, ◌<◌, eqb, ltb}

pub record Blocks : Type 0 where
  pub count : ℕ
  pub up : ℕ → ℕ
  pub number : ℕ → ℕ

-- the root is its own parent, so that a climb never leaves the table
pub record Tabled (t : Blocks) : Type 0 where
  pub falls : (k : ℕ) → t.up k ≤ pred k
  pub numbered : (k : ℕ) → 0 < k → k < t.count → t.number k ≡ t.number (t.up k) + 1

-- the block k steps towards the root from b
unfoldable pub climb : (ℕ → ℕ) → ℕ → ℕ → ℕ
climb up zero b = b
climb up (suc k) b = climb up k (up b)

-- a is met within f steps from b
unfoldable pub within : (ℕ → ℕ) → ℕ → ℕ → ℕ → Bool
within up zero a b = eqb b a
within up (suc f) a b = eqb b a || within up f a (up b)

-- b is at or below a. Parents are earlier, so that b steps reach the root
unfoldable pub below : (ℕ → ℕ) → ℕ → ℕ → Bool
below up a b = within up b a b

-- k is a child of g. The root is nobody's child
abbrev pub child : (ℕ → ℕ) → ℕ → ℕ → Bool
child up g k = ltb 0 k && eqb (up k) g
