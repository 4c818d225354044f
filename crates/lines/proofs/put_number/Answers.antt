use native.Mathlib.Omega.{arith}
use Rattle.lines.proofs.Decimals.{few, put_decimal}
use Rattle.lines.proofs.put_number.Goals as goal

pub put-requires : goal.put-requires
put-requires c = omega (arith, few _ _ c.decimal-k.ensures.len (omega arith), c.decimal-k.ensures.in_bounds.1)

pub returns : goal.returns
returns c = put_decimal _ _ _ c.decimal-k.ensures.len (omega arith) c.decimal-k.ensures.digits c.put.ensures
