-- Where a block stands that a call names. Document 01, "Refusal numbers": 11 where it is unknown, 13 where it is not at or
-- below the base.
use Rattle.std.specs.Prelude.{cond, List, ℕ, ltb, Option, Some, None, Result, Ok, Err}
use Rattle.grandpa.specs.Tree.{below}
use Rattle.blocks.specs.Add.{place_of, on_place}
use Rattle.nodes.specs.Nodes.{col}
use Rattle.refusals.specs.declared.Refusal.{Refusal}
use Rattle.refusals.specs.declared.Refusal.TheVariants.{OffTheBase, UnknownTarget}

unfoldable pub in_base : List ℕ → ℕ → ℕ → Result ℕ Refusal
in_base parents base k = cond (below (col parents) base k) (Ok k) (Err OffTheBase)

-- by its id
unfoldable pub target : List ℕ → List ℕ → ℕ → ℕ → ℕ → Result ℕ Refusal
target ids parents count base id = on_place (place_of ids count id) (in_base parents base) (Err UnknownTarget)

-- by its place; the base, where none is named
unfoldable pub start : List ℕ → ℕ → ℕ → Option ℕ → Result ℕ Refusal
start parents count base None = Ok base
start parents count base (Some k) = cond (ltb k count) (in_base parents base k) (Err UnknownTarget)

abbrev pub on_target : {A : Type 0} → Result ℕ Refusal → (ℕ → A) → (Refusal → A) → A
on_target (Ok k) f r = f k
on_target (Err e) f r = r e
