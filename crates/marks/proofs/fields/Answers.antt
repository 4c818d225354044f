use mathlib.Core.Path.{◌≡◌, ap}
use lib.ListN.{take, drop}
use Prim.Native.Nat.{◌+◌, ◌-◌}
use native.Mathlib.Omega.{arith}
use Rattle.marks.specs.Marks.{size, fields}
use Rattle.marks.proofs.fields.Goals as goal

pub returns : goal.returns
unfolding fields
returns c =
    let s : 2 + c.size.result - 2 ≡ size c.args.mark = omega (arith, c.size.ensures) in
    ap (λ n. take n (drop 2 c.args.bytes.now)) s
