-- Adding a block to a table that keeps the shape. Document 01, "Refusal numbers" 5, 6, 7, 8, in that order; a refusal
-- hands the table back equal.
use Rattle.std.specs.Prelude.{cond, List, ℕ, ◌+◌, eqb, get_or, set, Option, Some, None, Result, Ok, Err}
use Rattle.sizes.specs.Sizes.{BLOCKS}
use Rattle.columns.specs.Find.{find, contains}
use Rattle.blocks.specs.declared.BlockTable.{BlockTable}
use Rattle.blocks.specs.declared.Added.{Added}
use Rattle.refusals.specs.declared.Refusal.{Refusal}
use Rattle.refusals.specs.declared.Refusal.TheVariants.{KnownBlock, NumberOverflow, TableFull, UnknownParent}

-- where the block with this id stands
unfoldable pub place_of : List ℕ → ℕ → ℕ → Option ℕ
place_of ids count id = find ids count id

abbrev pub on_place : {A : Type 0} → Option ℕ → (ℕ → A) → A → A
on_place (Some k) f d = f k
on_place None f d = d

abbrev pub refused : BlockTable → Refusal → Added
refused t n = record { answer = Err n; table = t }

-- the block at the first unused place, under the block at `above`
abbrev pub appended : BlockTable → ℕ → ℕ → BlockTable
appended t id above =
    record {
      ids = set t.ids t.count id;
      numbers = set t.numbers t.count (get_or t.numbers above 0 + 1);
      parents = set t.parents t.count above;
      count = t.count + 1;
    }

abbrev pub placed : BlockTable → ℕ → ℕ → Added
placed t id above = record { answer = Ok t.count; table = appended t id above }

unfoldable pub append : BlockTable → ℕ → ℕ → Added
append t id above =
    cond (eqb (get_or t.numbers above 0) 4294967295) (refused t NumberOverflow)
    (cond (eqb t.count BLOCKS) (refused t TableFull) (placed t id above))

unfoldable pub step : BlockTable → ℕ → ℕ → Added
step t id parent =
    cond (contains t.ids t.count id) (refused t KnownBlock)
    (on_place (place_of t.ids t.count parent) (append t id) (refused t UnknownParent))

-- the blocks after an answer
abbrev pub counted : ℕ → Result ℕ Refusal → ℕ
counted count (Ok k) = count + 1
counted count (Err n) = count
