-- The shape of a table of blocks. Document 01, "Sizes": at most 256 blocks; block 0 is the root with a number of its
-- own; every other block names an earlier one as parent and has the parent's number plus 1; ids are distinct. "Shape
-- rules": counts within sizes; the table as in Sizes; unused places 0.
use Rattle.std.specs.Prelude.{Bool, not, ◌&&◌, ◌||◌, List, ◌≡◌, ℕ, ◌+◌, ◌≤◌, ◌<◌, eqb, leb, ltb, length, get_or}
use Rattle.sizes.specs.Sizes.{BLOCKS}
use Rattle.loops.specs.All.{all}
use Rattle.columns.specs.Find.{contains}
use Rattle.grandpa.specs.Tree.{Tabled}
use Rattle.blocks.specs.declared.BlockTable.{BlockTable}
use Rattle.blocks.specs.Table.{up, blocks, Stands}

-- arrays of BLOCKS, which the types say of a table in code
unfoldable pub sized : List ℕ → List ℕ → List ℕ → Bool
sized ids numbers parents = eqb (length ids) BLOCKS && (eqb (length numbers) BLOCKS && eqb (length parents) BLOCKS)

-- counts within sizes
unfoldable pub count_fits : ℕ → Bool
count_fits count = ltb 0 count && leb count BLOCKS

-- a block but the root names an earlier one as parent and has the parent's number plus 1
unfoldable pub is_child : List ℕ → List ℕ → ℕ → Bool
is_child parents numbers k = ltb (up parents k) k && eqb (get_or numbers k 0) (get_or numbers (up parents k) 0 + 1)

abbrev pub seated : List ℕ → List ℕ → ℕ → Bool
seated parents numbers k = eqb k 0 || is_child parents numbers k

-- the root is its own parent
unfoldable pub is_tree : List ℕ → List ℕ → ℕ → Bool
is_tree parents numbers count = eqb (up parents 0) 0 && all count (seated parents numbers)

-- the id at a place stands at no earlier one
abbrev pub is_new : List ℕ → ℕ → Bool
is_new ids k = not (contains ids k (get_or ids k 0))

-- ids are distinct
unfoldable pub are_distinct : List ℕ → ℕ → Bool
are_distinct ids count = all count (is_new ids)

-- a place is used or 0
unfoldable pub clear_at : List ℕ → ℕ → ℕ → Bool
clear_at column count k = ltb k count || eqb (get_or column k 0) 0

-- unused places are 0
unfoldable pub is_clear : List ℕ → ℕ → Bool
is_clear column count = all BLOCKS (clear_at column count)

unfoldable pub are_clear : List ℕ → List ℕ → List ℕ → ℕ → Bool
are_clear ids numbers parents count = is_clear ids count && (is_clear numbers count && is_clear parents count)

-- the whole test
unfoldable pub tabled : BlockTable → Bool
tabled t =
    sized t.ids t.numbers t.parents
    && (count_fits t.count
    && (is_tree t.parents t.numbers t.count
    && (are_clear t.ids t.numbers t.parents t.count
    && are_distinct t.ids t.count)))

-- what the test says
pub record Shaped (t : BlockTable) : Type 0 where
  pub ids_size : length t.ids ≡ BLOCKS
  pub numbers_size : length t.numbers ≡ BLOCKS
  pub parents_size : length t.parents ≡ BLOCKS
  pub rooted : 0 < t.count
  pub few : t.count ≤ BLOCKS
  pub tree : Tabled (blocks t)
  pub distinct : (id j k : ℕ) → Stands t id j → Stands t id k → j ≡ k
  pub ids_clear : (k : ℕ) → t.count ≤ k → get_or t.ids k 0 ≡ 0
  pub numbers_clear : (k : ℕ) → t.count ≤ k → get_or t.numbers k 0 ≡ 0
  pub parents_clear : (k : ℕ) → t.count ≤ k → get_or t.parents k 0 ≡ 0
