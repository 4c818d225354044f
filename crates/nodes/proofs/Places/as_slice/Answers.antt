use mathlib.Core.Path.{sym}
use native.Mathlib.Omega.{arith}
use Rattle.nodes.proofs.Lists.{front_take}
use Rattle.nodes.proofs.Places.as_slice.Goals as goal

pub returns : goal.returns
returns c = sym (front_take c.args.self.now.count c.args.self.now.places (omega arith))
