use mathlib.Core.Path.{◌∙◌, sym, subst}
use Prim.Native.Nat.{◌≤◌}
use native.Mathlib.Omega.{arith}
use Rattle.sizes.specs.Sizes.{PAIRS}
use Rattle.pairing.specs.declared.Pairs.{Pairs}
use Rattle.feeding.proofs.Goes.{run_short, replay_done}
use Rattle.feeding.proofs.replayed.Goals as goal

pub from_voters-requires : goal.from_voters-requires
from_voters-requires c = subst (λ (p : Pairs). p.count ≤ PAIRS) (sym c.no_pairs.ensures) (omega arith)

pub after-requires : goal.after-requires
after-requires c = (c.from_voters.ensures.1.0, run_short _ _ c.from_voters.result c.from_voters.ensures.0)

pub returns : goal.returns
returns c = c.after.ensures ∙ replay_done _ c.no_pairs.ensures _ _ c.from_voters.ensures.0
