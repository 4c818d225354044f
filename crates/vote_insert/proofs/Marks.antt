-- The climb that sets a bit: every node at or above the block gets it, and no other.
use mathlib.Core.Bool.{Bool, true, false, cond, ◌&&◌}
use mathlib.Core.List.{List, []}
use mathlib.Core.Path.{◌≡◌, refl, sym, ap, subst, ◌∙◌}
use mathlib.Core.Logic.{◌≢◌, ◌⊎◌, inl, inr}
use Prim.Native.Nat.{ℕ, zero, suc, ◌≤◌, ◌<◌}
use native.Mathlib.Decide.{ℕ_discrete}
use native.Mathlib.Omega.{arith}
use lib.Dec.{T, leb}
use lib.ListN.{set, length, length-set}
use lib.Seq.{get_or-set_same, get_or-set_other}
use borrow.Author.Tests.{leb-false, le-leb, lt-leb}
use Rattle.sizes.specs.Sizes.{BLOCKS}
use Rattle.loops.proofs.Tests.{same_test, both, left_of, right_of, true_T, false_not, le_or_lt}
use Rattle.grandpa.specs.Tree.{below}
use Rattle.grandpa.proofs.Trees.{below_refl, below_up, below_trans, below_le, below_antisym, below_step}
use Rattle.bitfield.specs.Bits.{put}
use Rattle.graph.specs.Search.{nearest}
use Rattle.graph.proofs.Climbs.{Nearest, nearest_says}
use Rattle.nodes.specs.Nodes.{col, row, Falls}
use Rattle.vote_insert.specs.Insert.{marked_from, marked}

module _ (above : List ℕ) (falls : Falls above) (base j : ℕ) where
  marked_fuel : (f g at : ℕ) (rows : List (List ℕ)) → at < f → at < g → marked_from above base j f at rows ≡ marked_from above base j g at rows
  unfolding marked_from
  marked_fuel zero g at rows h k = absurd (omega arith)
  marked_fuel (suc f) zero at rows h k = absurd (omega arith)
  marked_fuel (suc f) (suc g) at rows h k =
      go (leb at base) refl
      (λ l. marked_fuel f g (col above at) (set rows at (put (row rows at) j)) (omega (arith, falls at)) (omega (arith, falls at)))
    where
      next : List (List ℕ)
      next = set rows at (put (row rows at) j)

      go : (b : Bool) → leb at base ≡ b → (base < at → marked_from above base j f (col above at) next ≡ marked_from above base j g (col above at) next)
          → cond b next (marked_from above base j f (col above at) next) ≡ cond b next (marked_from above base j g (col above at) next)
      go true e r = refl
      go false e r = r (leb-false at base e)

  pub marked_end : (at : ℕ) (rows : List (List ℕ)) → at ≤ base → marked above base j at rows ≡ set rows at (put (row rows at) j)
  unfolding marked marked_from
  marked_end at rows h = rw (le-leb at base h)

  pub marked_next : (at : ℕ) (rows : List (List ℕ)) → base < at
      → marked above base j at rows ≡ marked above base j (col above at) (set rows at (put (row rows at) j))
  unfolding marked marked_from
  marked_next at rows h =
      rw (lt-leb at base h)
      (marked_fuel at (suc (col above at)) (col above at) (set rows at (put (row rows at) j)) (omega (arith, falls at)) (omega arith))

  length_climb : (f at : ℕ) (rows : List (List ℕ)) → length (marked_from above base j f at rows) ≡ length rows
  unfolding marked_from
  length_climb zero at rows = refl
  length_climb (suc f) at rows = pick (leb at base) (length_climb f (col above at) (set rows at (put (row rows at) j)))
    where
      next : List (List ℕ)
      next = set rows at (put (row rows at) j)

      pick : (b : Bool) → length (marked_from above base j f (col above at) next) ≡ length next
          → length (cond b next (marked_from above base j f (col above at) next)) ≡ length rows
      pick true r = simp length-set
      pick false r = r ∙ simp length-set

  pub length_marked : (at : ℕ) (rows : List (List ℕ)) → length (marked above base j at rows) ≡ length rows
  unfolding marked
  length_marked at rows = length_climb (suc at) at rows

module _ (parents above : List ℕ) (falls : Falls parents) (above_falls : Falls above) (used : ℕ → Bool) (base : ℕ) (base_used : T (used base))
    (inside : (x : ℕ) → T (used x) → T (below (col parents) base x)) (small : (x : ℕ) → T (used x) → x < BLOCKS)
    (tied : (x : ℕ) → T (used x) → x ≢ base → col above x ≡ nearest (col parents) used (col parents x)) (j : ℕ) where
  abbrev up : ℕ → ℕ
  up = col parents

  over : (x : ℕ) → T (used x) → base < x → Nearest up falls used (up x) (col above x)
  over x u h =
      rw (tied x u (λ e. omega arith))
      (nearest_says up falls used base base_used (up x) (below_step up falls base x (inside x u) (λ e. omega arith)))

  -- what a climb from `at` makes of the bits at x
  abbrev told : ℕ → List (List ℕ) → ℕ → List ℕ
  told at rows x = cond (used x && below up x at) (put (row rows x) j) (row rows x)

  marked_row : (f at : ℕ) (rows : List (List ℕ)) → at < f → T (used at) → length rows ≡ BLOCKS → (x : ℕ) → row (marked above base j at rows) x ≡ told at rows x
  marked_row zero at rows h u size x = absurd (omega arith)
  marked_row (suc f) at rows h u size x =
      go (le_or_lt at base)
      (λ l. marked_row f (col above at) (set rows at (put (row rows at) j)) (omega (arith, above_falls at)) (over at u l).is_node (simp length-set size) x)
    where
      next : List (List ℕ)
      next = set rows at (put (row rows at) j)

      next_here : row next at ≡ put (row rows at) j
      next_here = get_or-set_same rows at (put (row rows at) j) [] (omega (arith, small at u))

      next_other : x ≢ at → row next x ≡ row rows x
      next_other n = get_or-set_other rows at x (put (row rows at) j) [] n

      hit : told at rows at ≡ put (row rows at) j
      hit = ap (λ (b : Bool). cond b (put (row rows at) j) (row rows at)) (true_T (used at && below up at at) (both (used at) (below up at at) u (below_refl up falls at)))

      miss : (to : ℕ) (rs : List (List ℕ)) (y : ℕ) → (T (used y && below up y to) → ⊥) → told to rs y ≡ row rs y
      miss to rs y n = ap (λ (b : Bool). cond b (put (row rs y) j) (row rs y)) (false_not (used y && below up y to) n)

      stop : at ≤ base → Dec (x ≡ at) → row next x ≡ told at rows x
      stop l (yes q) = subst (λ (y : ℕ). row next y ≡ told at rows y) (sym q) (next_here ∙ sym hit)
      stop l (no n) =
          next_other n
          ∙ sym (miss at rows x (λ t. n (below_antisym up falls x at (right_of (used x) (below up x at) t)
          (subst (λ (y : ℕ). T (below up y x)) first (inside x (left_of (used x) (below up x at) t))))))
        where
          first : base ≡ at
          first = omega (arith, below_le up falls base at (inside at u))

      climb : base < at → Dec (x ≡ at) → told (col above at) next x ≡ told at rows x
      climb l (yes q) =
          subst (λ (y : ℕ). told (col above at) next y ≡ told at rows y) (sym q)
          (miss (col above at) next at (λ t. omega (arith, below_le up falls at (col above at) (right_of (used at) (below up at (col above at)) t), above_falls at))
          ∙ next_here ∙ sym hit)
      climb l (no n) =
          ap (λ (r : List ℕ). cond (used x && below up x (col above at)) (put r j) r) (next_other n)
          ∙ ap (λ (b : Bool). cond b (put (row rows x) j) (row rows x)) (same_test (used x && below up x (col above at)) (used x && below up x at) to fro)
        where
          to : T (used x && below up x (col above at)) → T (used x && below up x at)
          to t =
              both (used x) (below up x at) (left_of (used x) (below up x (col above at)) t)
              (below_trans up falls x (col above at) at (right_of (used x) (below up x (col above at)) t)
              (below_trans up falls (col above at) (up at) at (over at u l).above (below_up up falls at)))

          fro : T (used x && below up x at) → T (used x && below up x (col above at))
          fro t =
              both (used x) (below up x (col above at)) (left_of (used x) (below up x at) t)
              ((over at u l).first x (left_of (used x) (below up x at) t) (below_step up falls x at (right_of (used x) (below up x at) t) n))

      go : (at ≤ base) ⊎ (base < at) → (base < at → row (marked above base j (col above at) next) x ≡ told (col above at) next x)
          → row (marked above base j at rows) x ≡ told at rows x
      go (inl l) r = ap (λ (rs : List (List ℕ)). row rs x) (marked_end above above_falls base j at rows l) ∙ stop l (ℕ_discrete x at)
      go (inr l) r = ap (λ (rs : List (List ℕ)). row rs x) (marked_next above above_falls base j at rows l) ∙ r l ∙ climb l (ℕ_discrete x at)

  pub marked_bits : (at : ℕ) (rows : List (List ℕ)) → T (used at) → length rows ≡ BLOCKS → (x : ℕ)
      → row (marked above base j at rows) x ≡ cond (used x && below (col parents) x at) (put (row rows x) j) (row rows x)
  marked_bits at rows u size x = marked_row (suc at) at rows (omega arith) u size x
