use Prim.Native.Nat.{◌<◌}
use native.Mathlib.Omega.{arith}
use borrow.Author.Tests.{eq-eqb, ne_eqb, lt-ltb}
use Rattle.graph_sweeps.proofs.is_under.Goals as goal

pub returns-then-k-base : goal.returns-then-k-base
returns-then-k-base c = rw (eq-eqb _ _ c.if-k-base.true)

pub returns-then-k-eq0 : goal.returns-then-k-eq0
returns-then-k-eq0 c = rw (ne_eqb _ _ c.if-k-base.false, c.if-k-eq0.true)

pub returns : goal.returns
returns c =
    let h : 0 < c.args.k = omega arith in
    rw (ne_eqb _ _ c.if-k-base.false, lt-ltb _ _ h)
