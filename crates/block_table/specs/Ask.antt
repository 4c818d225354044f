-- Asking a table. Document 01, "Porting order" 5: an ancestor at a given number is found by climbing; "Sizes": below means
-- further from the root; "Refusal numbers" 9.
use Rattle.std.specs.Prelude.{Bool, cond, ◌&&◌, ℕ, leb, ltb, get_or, Option, Some, None, Result, Ok, Err}
use Rattle.grandpa.specs.Tree.{below}
use Rattle.blocks.specs.declared.BlockTable.{BlockTable}
use Rattle.blocks.specs.Table.{up, climbed}
use Rattle.blocks.specs.Add.{place_of}
use Rattle.block_shape.specs.Shape.{tabled}
use Rattle.refusals.specs.declared.Refusal.{Refusal}
use Rattle.refusals.specs.declared.Refusal.TheVariants.{Misshapen}

-- how many blocks a table has that keeps the rules
unfoldable pub used : BlockTable → Result ℕ Refusal
used t = cond (tabled t) (Ok t.count) (Err Misshapen)

unfoldable pub find : BlockTable → ℕ → Result (Option ℕ) Refusal
find t id = cond (tabled t) (Ok (place_of t.ids t.count id)) (Err Misshapen)

unfoldable pub number : BlockTable → ℕ → Result (Option ℕ) Refusal
number t b = cond (tabled t) (Ok (cond (ltb b t.count) (Some (get_or t.numbers b 0)) None)) (Err Misshapen)

-- no block above the root, and none below b
unfoldable pub ancestor_at : BlockTable → ℕ → ℕ → Result (Option ℕ) Refusal
ancestor_at t b wanted =
    cond (tabled t)
    (Ok (cond (ltb b t.count && (leb (get_or t.numbers 0 0) wanted && leb wanted (get_or t.numbers b 0)))
    (Some (climbed t.parents t.numbers b wanted))
    None))
    (Err Misshapen)

-- a place that holds no block is below none
unfoldable pub is_at_or_below : BlockTable → ℕ → ℕ → Result Bool Refusal
is_at_or_below t a b =
    cond (tabled t) (Ok (ltb a t.count && (ltb b t.count && below (up t.parents) a b))) (Err Misshapen)
