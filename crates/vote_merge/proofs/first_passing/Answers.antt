use mathlib.Core.Path.{sym, ap, ◌∙◌}
use Prim.Native.Nat.{ℕ}
use Rattle.graph.specs.Ghost.{first_in}
use Rattle.nodes.specs.Nodes.{row}
use Rattle.vote_merge.proofs.Turns.{whole_rest, first_hit, first_next, first_end}
use Rattle.vote_merge.proofs.first_passing.Goals as goal

pub loop-place-init : goal.loop-place-init
loop-place-init g c = ap (first_in _) (whole_rest _)

pub returns-then-passes : goal.returns-then-passes
returns-then-passes g c =
    sym (c.loop-place.invariant ∙ first_hit _ _ _ _ c.loop-place-test.true
    (ap (λ (x : ℕ). g.Q.Asks.asks c.args.question.now (row c.args.rows.now x)) (sym c.wide-at.ensures.0) ∙ sym c.passes.ensures ∙ c.if-passes.true))

pub loop-place-preserved : goal.loop-place-preserved
loop-place-preserved g c =
    c.loop-place.invariant ∙ first_next _ _ _ _ c.loop-place-test.true
    (ap (λ (x : ℕ). g.Q.Asks.asks c.args.question.now (row c.args.rows.now x)) (sym c.wide-at.ensures.0) ∙ sym c.passes.ensures ∙ c.if-passes.false)

pub returns : goal.returns
returns g c = sym (c.loop-place.invariant ∙ first_end _ _ _ _ c.loop-place-test.false)
