-- Opening a table, and adding a block to any. Document 01, "Sizes" and "Refusal numbers" 5, 6, 7, 8, in that order, and 9
-- before them; a refusal hands the table back equal.
use Rattle.std.specs.Prelude.{false, cond, ◌≡◌, ◌≢◌, ℕ, ◌<◌, T, get_or, set, replicate, Result, Ok, Err}
use Rattle.sizes.specs.Sizes.{BLOCKS}
use Rattle.blocks.specs.declared.BlockTable.{BlockTable}
use Rattle.blocks.specs.declared.Added.{Added}
use Rattle.blocks.specs.Table.{Stands, Absent}
use Rattle.blocks.specs.Add.{refused, step}
use Rattle.block_shape.specs.Shape.{tabled}
use Rattle.refusals.specs.declared.Refusal.{Refusal}
use Rattle.refusals.specs.declared.Refusal.TheVariants.{KnownBlock, Misshapen, NumberOverflow, TableFull, UnknownParent}

-- a root with its number, and no other block
unfoldable pub opened : ℕ → ℕ → BlockTable
opened root number =
    record { ids = set (replicate BLOCKS 0) 0 root; numbers = set (replicate BLOCKS 0) 0 number; parents = replicate BLOCKS 0; count = 1 }

-- on any table
unfoldable pub add : BlockTable → ℕ → ℕ → Added
add t id parent = cond (tabled t) (step t id parent) (refused t Misshapen)

-- the answer that is due, each refusal in document 01's words
pub data Due (t : BlockTable) (id parent : ℕ) : Result ℕ Refusal → Type 0 where
  breaks_the_shape : tabled t ≡ false → Due t id parent (Err Misshapen)
  already_there : T (tabled t) → (k : ℕ) → Stands t id k → Due t id parent (Err KnownBlock)
  no_parent : T (tabled t) → Absent t id → Absent t parent → Due t id parent (Err UnknownParent)
  last_number : T (tabled t) → Absent t id → (k : ℕ) → Stands t parent k → get_or t.numbers k 0 ≡ 4294967295
      → Due t id parent (Err NumberOverflow)
  full : T (tabled t) → Absent t id → (k : ℕ) → Stands t parent k → get_or t.numbers k 0 ≢ 4294967295
      → t.count ≡ BLOCKS → Due t id parent (Err TableFull)
  room : T (tabled t) → Absent t id → (k : ℕ) → Stands t parent k → get_or t.numbers k 0 ≢ 4294967295
      → t.count < BLOCKS → Due t id parent (Ok t.count)
