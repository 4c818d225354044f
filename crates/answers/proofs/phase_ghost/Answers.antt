use mathlib.Core.Path.{sym, subst}
use Prim.Native.Nat.{ℕ}
use lib.Dec.{T}
use Rattle.grandpa.specs.Tree.{below}
use Rattle.nodes.specs.Nodes.{col}
use Rattle.answers.proofs.Steps.{start_in, stands, phase_stays, phase_goes}
use Rattle.answers.proofs.phase_ghost.Goals as goal

pub returns-then-heard-threshold : goal.returns-then-heard-threshold
returns-then-heard-threshold c = phase_stays _ _ _ _ c.if-heard-threshold.true

pub find_ghost-requires : goal.find_ghost-requires
find_ghost-requires c =
    (c.args.base, stands _ _ _ c.requires.0 _ (subst (λ (b : ℕ). T (below (col c.args.parents.now) c.args.base b)) (sym c.start_of-start.ensures) (start_in _ _ _ c.requires.0 c.args.stored c.requires.1)))

pub returns : goal.returns
returns c = phase_goes _ _ _ _ c.if-heard-threshold.false _ c.start_of-start.ensures _ c.find_ghost.ensures
