-- The table of blocks. Document 01, "Sizes": at most 256 blocks; block 0 is the root; every other block names an earlier
-- one as parent.
use Rattle.std.specs.Prelude.{List, ◌≡◌, ℕ, ◌-◌, ◌<◌, get_or}
use Rattle.grandpa.specs.Tree.{Blocks, climb}
use Rattle.blocks.specs.declared.BlockTable.{BlockTable}

-- the parent of a block, by place
abbrev pub up : List ℕ → ℕ → ℕ
up parents k = get_or parents k 0

-- columns as the blocks that the definitions speak of
abbrev pub view : List ℕ → List ℕ → ℕ → Blocks
view parents numbers count = record { count = count; up = up parents; number = λ k. get_or numbers k 0 }

abbrev pub blocks : BlockTable → Blocks
blocks t = view t.parents t.numbers t.count

abbrev pub table_of : List ℕ → List ℕ → List ℕ → ℕ → BlockTable
table_of ids numbers parents count = record { ids = ids; numbers = numbers; parents = parents; count = count }

-- a block with this id stands at place k
pub record Stands (t : BlockTable) (id k : ℕ) : Type 0 where
  pub inside : k < t.count
  pub named : get_or t.ids k 0 ≡ id

-- no block has this id
abbrev pub Absent : BlockTable → ℕ → Type 0
Absent t id = (k : ℕ) → Stands t id k → ⊥

-- as many steps up as b's number is above the wanted one
unfoldable pub climbed : List ℕ → List ℕ → ℕ → ℕ → ℕ
climbed parents numbers b wanted = climb (up parents) (get_or numbers b 0 - wanted) b
