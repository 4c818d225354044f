use mathlib.Core.Path.{sym, ◌∙◌}
use Prim.Native.Nat.{◌≤◌}
use native.Mathlib.Omega.{arith}
use lib.ListN.{get_or}
use Rattle.blocks.proofs.Climbs.{climbed_here, climbed_up, number_falls}
use Rattle.blocks.proofs.+ancestor_at.Goals as goal

pub returns-then-numbers-at : goal.returns-then-numbers-at
returns-then-numbers-at t c =
    let h : get_or c.args.numbers.now c.args.block 0 ≤ c.args.wanted = omega (arith, c.if-numbers-at.true) in
    sym (climbed_here _ _ _ _ h)

pub ancestor_at-requires : goal.ancestor_at-requires
ancestor_at-requires t c =
    let p = c.requires in
    let f = number_falls c.args.parents.now c.args.numbers.now p.0 p.1 c.args.block c.args.wanted p.2 p.3 c.if-numbers-at.false in
    (omega (arith, c.decreases, f, c.if-numbers-at.false), (p.0, p.1, omega (arith, p.1.falls c.args.block, p.2), p.3))

pub returns : goal.returns
returns t c = let p = c.requires in c.ancestor_at.ensures ∙ sym (climbed_up _ _ p.0 p.1 _ _ p.2 p.3 c.if-numbers-at.false)
