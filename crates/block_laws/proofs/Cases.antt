-- Worked examples, by computing: document 01's case J has this tree.
use mathlib.Core.Path.{◌≡◌, refl}
use lib.ListN.{set}
use Rattle.loops.specs.Loop.{first}
use Rattle.loops.specs.All.{all, any}
use Rattle.columns.specs.Find as columns
use Rattle.grandpa.specs.Tree.{climb, within, below}
use Rattle.blocks.specs.declared.BlockTable.{BlockTable}
use Rattle.blocks.specs.Table.{climbed}
use Rattle.blocks.specs.Add.{place_of, append, step}
use Rattle.block_shape.specs.Shape.{sized, count_fits, is_child, is_tree, are_distinct, clear_at, is_clear, are_clear, tabled}
use Rattle.block_table.specs.Add.{opened, add}
use Rattle.block_table.specs.Ask.{find, number, ancestor_at, is_at_or_below}
use Rattle.std.specs.Prelude.{Some, None, Ok, Err, true, false}
use Rattle.refusals.specs.declared.Refusal.TheVariants.{KnownBlock, Misshapen, NumberOverflow, UnknownParent}

abbrev j : BlockTable
j = (add (add (add (opened 10 0) 11 10).table 12 11).table 13 11).table

-- the last number has no child
abbrev last : BlockTable
last = (add (opened 1 4294967294) 2 1).table

-- block 2 names a later parent
abbrev later : BlockTable
later = record { ids = j.ids; numbers = j.numbers; parents = set j.parents 2 3; count = 4 }

adding : ((add j 14 13).answer ≡ Ok 4)
    × ((add j 12 99).answer ≡ Err KnownBlock)
    × ((add j 14 99).answer ≡ Err UnknownParent)
    × ((add last 3 2).answer ≡ Err NumberOverflow)
    × ((add later 14 13).answer ≡ Err Misshapen)
unfolding
    columns.contains columns.find first all any sized count_fits is_child is_tree are_distinct clear_at is_clear are_clear tabled opened place_of append step
    add
adding = (refl, refl, refl, refl, refl)

asking : (find j 13 ≡ Ok (Some 3))
    × (find j 14 ≡ Ok None)
    × (number j 3 ≡ Ok (Some 2))
    × (ancestor_at j 3 1 ≡ Ok (Some 1))
    × (ancestor_at j 1 2 ≡ Ok None)
    × (is_at_or_below j 1 3 ≡ Ok true)
    × (is_at_or_below j 2 3 ≡ Ok false)
unfolding
    columns.contains columns.find first all any sized count_fits is_child is_tree are_distinct clear_at is_clear are_clear tabled opened place_of append step
    add find number climb climbed ancestor_at within below is_at_or_below
asking = (refl, refl, refl, refl, refl, refl, refl)
