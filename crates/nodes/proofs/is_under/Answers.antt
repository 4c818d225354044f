use mathlib.Core.Bool.{Bool, not, ◌&&◌, and-true, and-false}
use mathlib.Core.Path.{sym, ap, ◌∙◌}
use borrow.Author.Tests.{eq-eqb, ne_eqb}
use Rattle.grandpa.specs.Tree.{below}
use Rattle.nodes.specs.Nodes.{col}
use Rattle.nodes.proofs.is_under.Goals as goal

pub returns-then-place-block : goal.returns-then-place-block
returns-then-place-block c =
    sym (ap (λ (z : Bool). below (col c.args.parents.now) c.args.block c.args.place && not z) (eq-eqb _ _ c.if-place-block.true) ∙ and-false (below (col c.args.parents.now) c.args.block c.args.place))

pub returns : goal.returns
returns c =
    c.reaches.ensures
    ∙ sym (ap (λ (z : Bool). below (col c.args.parents.now) c.args.block c.args.place && not z) (ne_eqb _ _ c.if-place-block.false) ∙ and-true (below (col c.args.parents.now) c.args.block c.args.place))
