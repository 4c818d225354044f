use mathlib.Core.Path.{sym}
use Rattle.grandpa.proofs.Trees.{below_at, number_root}
use Rattle.blocks.specs.Table.{climbed}
use native.Mathlib.Omega.{arith}
use Rattle.blocks.proofs.is_at_or_below.Goals as goal

pub ancestor_at-requires : goal.ancestor_at-requires
ancestor_at-requires c =
    let p = c.requires in
    (p.0, p.1, omega (arith, p.2, p.3), number_root _ p.1 _ (omega (arith, p.2, p.3)))

pub returns : goal.returns
unfolding climbed
returns c =
    let p = c.requires in
    rw c.ancestor_at.ensures (sym (below_at _ p.1 _ _ p.3))
