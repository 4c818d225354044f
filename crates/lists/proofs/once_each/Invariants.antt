use mathlib.Core.Bool.{true}
use mathlib.Core.Path.{◌≡◌}
use lib.ListN.{length}
use Rattle.loops.specs.All.{all}
use Rattle.loops.specs.Listing.{front}
use Rattle.lists.specs.Laid.{unmarked, fresh}
use Rattle.lists.proofs.once_each.Given as goal

abbrev pub invariant-loop-place : goal.invariant-loop-place
invariant-loop-place g l =
    (l.left ≡ unmarked (front l.place-index (g.T.Number.numbers l.places)) l.marks)
    × (all l.place-index (fresh (g.T.Number.numbers l.places) l.marks) ≡ true)
    × (length l.left ≡ g.row.N)
