-- What each part of the shape test means, that the whole is `Shaped` and no more, and the turns of the loops that run it.
use mathlib.Core.Bool.{Bool, true, false, ◌&&◌}
use mathlib.Core.List.{List}
use mathlib.Core.Path.{◌≡◌, refl, sym, ◌∙◌}
use mathlib.Core.Logic.{◌⊎◌, inl, inr}
use Prim.Native.Nat.{ℕ, zero, suc, pred, ◌+◌, ◌≤◌, ◌<◌}
use native.Mathlib.Omega.{arith}
use lib.Dec.{T, eqb, leb, ltb, eqb→eq, leb→le, le→leb, ltb→lt, lt→ltb}
use lib.ListN.{length, get_or, get_or-eq_default}
use borrow.Author.Tests.{eq-eqb, ne_eqb, lt-ltb, le-leb, lt-leb}
use Rattle.sizes.specs.Sizes.{BLOCKS}
use Rattle.loops.specs.All.{all}
use Rattle.loops.proofs.Tests.{T_true, true_T, T_false, false_T, false_not, both, left_of, right_of, in_left, in_right, either, le_or_lt}
use Rattle.loops.proofs.Alls.{all_at, all_intro, all_none, all_more}
use Rattle.columns.specs.Blank.{blank}
use Rattle.columns.specs.Find.{contains}
use Rattle.columns.proofs.Finds.{contains_at, at_contains}
use Rattle.grandpa.specs.Tree.{Tabled}
use Rattle.blocks.specs.declared.BlockTable.{BlockTable}
use Rattle.blocks.specs.Table.{up, view, Stands}
use Rattle.block_shape.specs.Shape.{sized, count_fits, is_child, seated, is_tree, is_new, are_distinct, clear_at, is_clear, are_clear, tabled, Shaped}

-- unused places
module _ (column : List ℕ) (count : ℕ) where
  -- the test of `lists`, of a whole column
  pub clear_of_blank : (size : ℕ) → size ≡ BLOCKS → blank column count size ≡ is_clear column count
  unfolding is_clear clear_at blank
  clear_of_blank size e = rw e

  pub clear_means : length column ≡ BLOCKS → T (is_clear column count) → (k : ℕ) → count ≤ k → get_or column k 0 ≡ 0
  unfolding is_clear clear_at
  clear_means e t k h = go (le_or_lt BLOCKS k)
    where
      at : T (clear_at column count k) → get_or column k 0 ≡ 0
      at s = pick (either (ltb k count) (eqb (get_or column k 0) 0) s)
        where
          pick : T (ltb k count) ⊎ T (eqb (get_or column k 0) 0) → get_or column k 0 ≡ 0
          pick (inl l) = absurd (omega (arith, ltb→lt k count l))
          pick (inr z) = eqb→eq (get_or column k 0) 0 z

      go : (BLOCKS ≤ k) ⊎ (k < BLOCKS) → get_or column k 0 ≡ 0
      go (inl l) = get_or-eq_default column 0 (omega arith)
      go (inr l) = at (all_at (clear_at column count) BLOCKS t k l)

  pub means_clear : ((k : ℕ) → count ≤ k → get_or column k 0 ≡ 0) → T (is_clear column count)
  unfolding is_clear clear_at
  means_clear f = all_intro (clear_at column count) BLOCKS (λ k h. go k (le_or_lt count k))
    where
      go : (k : ℕ) → (count ≤ k) ⊎ (k < count) → T (clear_at column count k)
      go k (inl l) = in_right (ltb k count) _ (T_true (eq-eqb _ _ (f k l)))
      go k (inr l) = in_left (ltb k count) _ (lt→ltb k count l)

-- parents and numbers
module _ (parents numbers : List ℕ) where
  pub child_means : (k : ℕ) → T (is_child parents numbers k)
      → (up parents k < k) × (get_or numbers k 0 ≡ get_or numbers (up parents k) 0 + 1)
  unfolding is_child
  child_means k t =
      (ltb→lt (up parents k) k (left_of (ltb (up parents k) k) _ t), eqb→eq (get_or numbers k 0) _ (right_of (ltb (up parents k) k) _ t))

  pub means_child : (k : ℕ) → up parents k < k → get_or numbers k 0 ≡ get_or numbers (up parents k) 0 + 1
      → T (is_child parents numbers k)
  unfolding is_child
  means_child k h e = both (ltb (up parents k) k) _ (lt→ltb (up parents k) k h) (T_true (eq-eqb _ _ e))

  pub seated_start : all 1 (seated parents numbers) ≡ true
  seated_start = all_more (seated parents numbers) 0 (all_none (seated parents numbers)) refl

  pub seated_child : (k : ℕ) → is_child parents numbers k ≡ true → seated parents numbers k ≡ true
  seated_child k e = true_T _ (in_right (eqb k 0) _ (T_true e))

  pub seated_none : (k : ℕ) → 1 ≤ k → is_child parents numbers k ≡ false → seated parents numbers k ≡ false
  seated_none k h e = rw (ne_eqb k 0 (λ q. omega arith), e)

  pub tree_means : (count : ℕ) → T (is_tree parents numbers count) → ((k : ℕ) → count ≤ k → up parents k ≡ 0)
      → Tabled (view parents numbers count)
  unfolding is_tree
  tree_means count t clear = record { falls = λ k. falls k (le_or_lt count k); numbered = λ k h l. (child k h l).1 }
    where
      root : up parents 0 ≡ 0
      root = eqb→eq (up parents 0) 0 (left_of (eqb (up parents 0) 0) _ t)

      child : (k : ℕ) → 0 < k → k < count → (up parents k < k) × (get_or numbers k 0 ≡ get_or numbers (up parents k) 0 + 1)
      child k h l =
          pick (either (eqb k 0) (is_child parents numbers k) (all_at (seated parents numbers) count (right_of (eqb (up parents 0) 0) _ t) k l))
        where
          pick : T (eqb k 0) ⊎ T (is_child parents numbers k)
              → (up parents k < k) × (get_or numbers k 0 ≡ get_or numbers (up parents k) 0 + 1)
          pick (inl z) = absurd (omega (arith, eqb→eq k 0 z))
          pick (inr s) = child_means k s

      falls : (k : ℕ) → (count ≤ k) ⊎ (k < count) → up parents k ≤ pred k
      falls k (inl l) = omega (arith, clear k l)
      falls zero (inr l) = omega (arith, root)
      falls (suc k) (inr l) = omega (arith, (child (suc k) (omega arith) l).0)

  pub means_tree : (count : ℕ) → Tabled (view parents numbers count) → T (is_tree parents numbers count)
  unfolding is_tree
  means_tree count t =
      both (eqb (up parents 0) 0) _ (T_true (eq-eqb _ _ root)) (all_intro (seated parents numbers) count child)
    where
      root : up parents 0 ≡ 0
      root = omega (arith, t.falls 0)

      child : (k : ℕ) → k < count → T (seated parents numbers k)
      child zero l = tt
      child (suc k) l =
          in_right (eqb (suc k) 0) _ (means_child (suc k) (omega (arith, t.falls (suc k))) (t.numbered (suc k) (omega arith) l))

-- ids
module _ (ids : List ℕ) (count : ℕ) (size : count ≤ length ids) where
  pub distinct_means : T (are_distinct ids count) → (j k : ℕ) → j < k → k < count → get_or ids j 0 ≡ get_or ids k 0 → ⊥
  unfolding are_distinct
  distinct_means t j k h l e =
      never (true_T _ (at_contains ids k (get_or ids k 0) j (omega arith) e)) (false_T _ (all_at (is_new ids) count t k l))
    where
      never : contains ids k (get_or ids k 0) ≡ true → contains ids k (get_or ids k 0) ≡ false → ⊥
      never p q = let z : ◌≡◌ {A = ℕ} 0 1 = cc in omega arith

  pub means_distinct : ((j k : ℕ) → j < k → k < count → get_or ids j 0 ≡ get_or ids k 0 → ⊥) → T (are_distinct ids count)
  unfolding are_distinct
  means_distinct f =
      all_intro (is_new ids) count
      (λ k h. T_false (false_not (contains ids k (get_or ids k 0)) (λ s. let r = contains_at ids k (get_or ids k 0) s in f r.0 k (omega (arith, r.1)) h r.2)))

-- sizes and counts
pub sized_is : (ids numbers parents : List ℕ) → length ids ≡ BLOCKS → length numbers ≡ BLOCKS → length parents ≡ BLOCKS
    → sized ids numbers parents ≡ true
unfolding sized
sized_is ids numbers parents a b c = rw (a, b, c)

module _ (n : ℕ) where
  pub none_fits : n ≡ 0 → count_fits n ≡ false
  unfolding count_fits
  none_fits h = rw h

  pub many_fits : BLOCKS < n → count_fits n ≡ false
  unfolding count_fits
  many_fits h = rw (lt-ltb 0 n (omega arith), lt-leb n BLOCKS h)

  pub count_fits_is : (n ≡ 0 → ⊥) → n ≤ BLOCKS → count_fits n ≡ true
  unfolding count_fits
  count_fits_is h l = rw (lt-ltb 0 n (omega arith), le-leb n BLOCKS l)

three : (a b c : Bool) → T (a && (b && c)) → T a × T b × T c
three a b c t = let u = right_of a (b && c) t in (left_of a (b && c) t, left_of b c u, right_of b c u)

all_three : (a b c : Bool) → T a → T b → T c → T (a && (b && c))
all_three a b c p q r = both a (b && c) p (both b c q r)

-- the test is the shape
module _ (t : BlockTable) where
  pub tabled_shaped : T (tabled t) → Shaped t
  unfolding tabled sized count_fits are_clear
  tabled_shaped s =
      let ids = t.ids in
      let numbers = t.numbers in
      let parents = t.parents in
      let n = t.count in
      let all_five = three (sized ids numbers parents) (count_fits n) _ s in
      let rest = three (is_tree parents numbers n) (are_clear ids numbers parents n) (are_distinct ids n) all_five.2 in
      let sizes = three (eqb (length ids) BLOCKS) (eqb (length numbers) BLOCKS) (eqb (length parents) BLOCKS) all_five.0 in
      let clears = three (is_clear ids n) (is_clear numbers n) (is_clear parents n) rest.1 in
      let ids_size : length ids ≡ BLOCKS = eqb→eq (length ids) BLOCKS sizes.0 in
      let numbers_size : length numbers ≡ BLOCKS = eqb→eq (length numbers) BLOCKS sizes.1 in
      let parents_size : length parents ≡ BLOCKS = eqb→eq (length parents) BLOCKS sizes.2 in
      let rooted : 0 < n = ltb→lt 0 n (left_of (ltb 0 n) (leb n BLOCKS) all_five.1) in
      let few : n ≤ BLOCKS = leb→le n BLOCKS (right_of (ltb 0 n) (leb n BLOCKS) all_five.1) in
      let parents_clear = clear_means parents n parents_size clears.2 in
      let apart = distinct_means ids n (omega arith) rest.2 in
      record {
        ids_size = ids_size;
        numbers_size = numbers_size;
        parents_size = parents_size;
        rooted = rooted;
        few = few;
        tree = tree_means parents numbers n rest.0 parents_clear;
        distinct = λ id j k p q. go apart id j k p q (le_or_lt j k) (le_or_lt k j);
        ids_clear = clear_means ids n ids_size clears.0;
        numbers_clear = clear_means numbers n numbers_size clears.1;
        parents_clear = parents_clear;
      }
    where
      go : ((j k : ℕ) → j < k → k < t.count → get_or t.ids j 0 ≡ get_or t.ids k 0 → ⊥)
          → (id j k : ℕ) → Stands t id j → Stands t id k → (j ≤ k) ⊎ (k < j) → (k ≤ j) ⊎ (j < k) → j ≡ k
      go f id j k p q (inl a) (inl b) = omega arith
      go f id j k p q (inl a) (inr b) = absurd (f j k b q.inside (p.named ∙ sym q.named))
      go f id j k p q (inr a) b = absurd (f k j a p.inside (q.named ∙ sym p.named))

  pub shaped_tabled : Shaped t → T (tabled t)
  unfolding tabled sized count_fits are_clear
  shaped_tabled s =
      let ids = t.ids in
      let numbers = t.numbers in
      let parents = t.parents in
      let n = t.count in
      let sizes =
      all_three (eqb (length ids) BLOCKS) (eqb (length numbers) BLOCKS) (eqb (length parents) BLOCKS)
      (T_true (eq-eqb _ _ s.ids_size))
      (T_true (eq-eqb _ _ s.numbers_size))
      (T_true (eq-eqb _ _ s.parents_size))
      in
      let clears =
      all_three (is_clear ids n) (is_clear numbers n) (is_clear parents n)
      (means_clear ids n s.ids_clear)
      (means_clear numbers n s.numbers_clear)
      (means_clear parents n s.parents_clear)
      in
      let rest =
      all_three (is_tree parents numbers n) (are_clear ids numbers parents n) (are_distinct ids n)
      (means_tree parents numbers n s.tree)
      clears
      (means_distinct ids n (omega (arith, s.few, s.ids_size)) apart)
      in
      all_three (sized ids numbers parents) (count_fits n) _ sizes (both (ltb 0 n) (leb n BLOCKS) (lt→ltb 0 n s.rooted) (le→leb n BLOCKS s.few)) rest
    where
      apart : (j k : ℕ) → j < k → k < t.count → get_or t.ids j 0 ≡ get_or t.ids k 0 → ⊥
      apart j k h l e =
          let q = s.distinct (get_or t.ids k 0) j k (record { inside = omega arith; named = e }) (record { inside = l; named = refl }) in
          omega arith
