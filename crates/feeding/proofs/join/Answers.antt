use mathlib.Core.Path.{sym}
use native.Mathlib.Omega.{arith}
use lib.ListN.{length-take}
use lib.Seq.{take_all, length-take-le}
use Rattle.feeding.proofs.join.Goals as goal

pub returns-then-piece-lt22 : goal.returns-then-piece-lt22
returns-then-piece-lt22 c = (rw (take_all 22 c.args.piece.now (omega (arith, c.if-piece-lt22.true))) c.lay.ensures.0, c.lay.ensures.1)

pub slice_bounds-lay-end : goal.slice_bounds-lay-end
slice_bounds-lay-end c = sym (length-take-le 22 c.args.piece.now (omega (arith, c.if-piece-lt22.false)))

pub lay-requires-2 : goal.lay-requires-2
lay-requires-2 c = (c.requires, omega (arith, length-take 22 c.args.piece.now))
