-- Whether any mark is left.
use mathlib.Core.Bool.{Bool, true, false, beq, not, ◌&&◌, ◌||◌}
use mathlib.Core.List.{List}
use mathlib.Core.Path.{◌≡◌, refl, ap, ◌∙◌}
use Prim.Native.Nat.{ℕ, zero, suc, ◌≤◌}
use native.Mathlib.Numerals.{add-one}
use native.Mathlib.Omega.{arith}
use lib.ListN.{length, get_or, take}
use Rattle.std.specs.List.{list_any}
use Rattle.std.proofs.lemmas.List.Folds.{list_any_more}
use Rattle.std.proofs.Math.Seq.{take-length}
use Rattle.loops.specs.All.{all}
use Rattle.lists.specs.Laid.{none_left}

is_true : (b : Bool) → beq b true ≡ b
is_true true = refl
is_true false = refl

neither : (a b : Bool) → not (a || b) ≡ (not b && not a)
neither true true = refl
neither true false = refl
neither false true = refl
neither false false = refl

none_before : (marks : List Bool) (n : ℕ) → n ≤ length marks
    → not (list_any (λ b. beq b true) (take n marks)) ≡ all n (λ k. not (get_or marks k false))
unfolding all
none_before marks zero h = refl
none_before marks (suc n) h =
    let more = rw add-one at (list_any_more (λ b. beq b true) marks n false (omega arith)) in
    ap not more ∙ neither (list_any (λ b. beq b true) (take n marks)) (beq (get_or marks n false) true)
    ∙ end (is_true (get_or marks n false)) (none_before marks n (omega arith))
  where
    end : {a b c d : Bool} → a ≡ b → c ≡ d → (not a && c) ≡ (not b && d)
    end p q = rw (p, q)

pub none_left_is : (marks : List Bool) → not (list_any (λ b. beq b true) marks) ≡ none_left (length marks) marks
unfolding none_left
none_left_is marks = rw take-length at (none_before marks (length marks) (omega arith))
