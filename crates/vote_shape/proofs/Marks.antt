-- Marks of the places that pass a test, and the loops that set them.
use mathlib.Core.Bool.{Bool, true, false, ◌||◌}
use mathlib.Core.List.{List, [], ◌∷◌, ◌++◌}
use mathlib.Core.Path.{◌≡◌, refl, sym, ap, subst, ◌∙◌}
use mathlib.Core.Logic.{◌≢◌}
use Prim.Native.Nat.{ℕ, zero, suc, ◌+◌, ◌<◌}
use native.Mathlib.Decide.{ℕ_discrete}
use native.Mathlib.Omega.{arith}
use lib.Dec.{eqb}
use lib.ListN.{set, length, replicate, length-replicate, length-set, length-append, get_or-append}
use lib.Seq.{get_or-set_same, get_or-set_other, ext_get_or, get_or_at}
use borrow.Author.Tests.{eq-eqb, ne_eqb, lt-ltb}
use Rattle.sizes.specs.Sizes.{BLOCKS}
use Rattle.loops.specs.All.{any}
use Rattle.loops.proofs.Alls.{any_none, any_more}
use Rattle.nodes.specs.Nodes.{col, flag}
use Rattle.vote_bits.specs.Told.{aims}
use Rattle.vote_shape.specs.Voted.{marks}

module _ (p : ℕ → Bool) where
  pub length_marks : (n : ℕ) → length (marks n p) ≡ n
  unfolding marks
  length_marks zero = refl
  length_marks (suc n) = omega (arith, length-append (marks n p) (p n ∷ []), length_marks n)

  pub marks_at : (n k : ℕ) → k < n → flag (marks n p) k ≡ p k
  unfolding marks
  marks_at zero k h = absurd (omega arith)
  marks_at (suc n) k h = go (ℕ_discrete k n) (marks_at n k)
    where
      go : Dec (k ≡ n) → (k < n → flag (marks n p) k ≡ p k) → flag (marks n p ++ (p n ∷ [])) k ≡ p k
      go (yes e) r = rw e (get_or_at (marks n p) (p n) [] false n (length_marks n))
      go (no e) r = get_or-append (marks n p) _ false k (omega (arith, length_marks n)) ∙ r (omega arith)

-- a column of marks that says of the places before n whether they pass
pub record Marked (size : ℕ) (ms : List Bool) (p : ℕ → Bool) (n : ℕ) : Type 0 where
  pub sized : length ms ≡ size
  pub says : (x : ℕ) → x < n → flag ms x ≡ p x

pub marked_is : (size : ℕ) (ms : List Bool) (p : ℕ → Bool) → Marked size ms p size → ms ≡ marks size p
marked_is size ms p m =
    ext_get_or false ms (marks size p) (m.sized ∙ sym (length_marks p size))
    (λ i l. let h : i < size = omega (arith, m.sized) in m.says i h ∙ sym (marks_at p size i h))

pub marked_none : (size : ℕ) (p : ℕ → Bool) → Marked size (replicate size false) p 0
marked_none size p = record { sized = length-replicate size false; says = λ x h. absurd (omega arith) }

pub marked_next : (size : ℕ) (ms : List Bool) (p : ℕ → Bool) (n : ℕ) (b : Bool) → n < size → Marked size ms p n → b ≡ p n
    → Marked size (set ms n b) p (n + 1)
marked_next size ms p n b h m e = record { sized = simp length-set m.sized; says = λ x l. go x l (ℕ_discrete x n) }
  where
    go : (x : ℕ) → x < n + 1 → Dec (x ≡ n) → flag (set ms n b) x ≡ p x
    go x l (yes q) = rw q (get_or-set_same ms n b false (omega (arith, m.sized)) ∙ e)
    go x l (no q) = get_or-set_other ms n x b false q ∙ m.says x (omega arith)

or_true : (b c : Bool) → true ≡ (b || (true || c))
or_true true c = refl
or_true false c = refl

blank : (n x : ℕ) → flag (replicate n false) x ≡ false
blank zero x = refl
blank (suc n) zero = refl
blank (suc n) (suc x) = blank n x

-- the base and the targets of the first votes before index j
module _ (base : ℕ) (counts first_block : List ℕ) where
  abbrev pub before : ℕ → ℕ → Bool
  before j x = eqb x base || any j (aims counts first_block x)

  first_marked : (ms : List Bool) → length ms ≡ BLOCKS → ((x : ℕ) → flag ms x ≡ false) → base < BLOCKS → Marked BLOCKS (set ms base true) (before 0) BLOCKS
  first_marked ms s z h = record { sized = length-set ms base true ∙ s; says = λ x l. go x l (ℕ_discrete x base) }
    where
      go : (x : ℕ) → x < BLOCKS → Dec (x ≡ base) → flag (set ms base true) x ≡ before 0 x
      go x l (yes e) = rw (e, eq-eqb base base refl) (get_or-set_same ms base true false (omega arith))
      go x l (no n) = rw (ne_eqb x base n) (get_or-set_other ms base x true false n ∙ z x ∙ any_none (aims counts first_block x))

  pub base_marked : (top : ℕ) → top ≡ base → top < BLOCKS → Marked BLOCKS (set (replicate BLOCKS false) top true) (before 0) BLOCKS
  base_marked top t h =
      subst (λ (z : ℕ). Marked BLOCKS (set (replicate BLOCKS false) z true) (before 0) BLOCKS) (sym t)
      (first_marked (replicate BLOCKS false) refl (blank BLOCKS) (omega arith))

  pub silent_marked : (ms : List Bool) (j : ℕ) → col counts j ≡ 0 → Marked BLOCKS ms (before j) BLOCKS → Marked BLOCKS ms (before (j + 1)) BLOCKS
  silent_marked ms j e m = record { sized = m.sized; says = λ x l. m.says x l ∙ ap (λ (b : Bool). eqb x base || b) (step x) }
    where
      step : (x : ℕ) → any j (aims counts first_block x) ≡ any (j + 1) (aims counts first_block x)
      step x = rw e at (any_more (aims counts first_block x) j)

  pub target_marked : (ms : List Bool) (j at : ℕ) → col counts j ≢ 0 → at ≡ col first_block j → at < BLOCKS → Marked BLOCKS ms (before j) BLOCKS
      → Marked BLOCKS (set ms at true) (before (j + 1)) BLOCKS
  target_marked ms j at c e h m = record { sized = simp length-set m.sized; says = λ x l. go x l (ℕ_discrete x at) }
    where
      go : (x : ℕ) → x < BLOCKS → Dec (x ≡ at) → flag (set ms at true) x ≡ before (j + 1) x
      go x l (yes q) =
          rw q
          (get_or-set_same ms at true false (omega (arith, m.sized)) ∙ or_true (eqb at base) (any j (aims counts first_block at))
          ∙ ap (λ (b : Bool). eqb at base || b) (rw (lt-ltb 0 (col counts j) (omega arith), eq-eqb (col first_block j) at (sym e)) at (any_more (aims counts first_block at) j)))
      go x l (no q) =
          get_or-set_other ms at x true false q ∙ m.says x l
          ∙ ap (λ (b : Bool). eqb x base || b) (rw (lt-ltb 0 (col counts j) (omega arith), ne_eqb (col first_block j) x (λ d. q (sym d ∙ sym e))) at (any_more (aims counts first_block x) j))
