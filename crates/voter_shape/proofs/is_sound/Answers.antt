use mathlib.Core.Path.{sym, ◌∙◌}
use borrow.Author.Tests.{eq-eqb, ne_eqb}
use Rattle.totals.specs.Totals.{total_of}
use Rattle.voter_shape.specs.Sound.{sound}
use Rattle.totals.proofs.Turns.{summed_over, summed_fits, over_total}
use Rattle.voter_shape.proofs.is_sound.Goals as goal

pub returns-then-not-placed : goal.returns-then-not-placed
unfolding sound
returns-then-not-placed c = rw (sym c.placed.ensures ∙ c.if-not-placed.true)

pub returns-in_default : goal.returns-in_default
unfolding sound
returns-in_default c = rw (sym c.placed.ensures ∙ c.if-not-placed.false, over_total (total_of c.args.weights.now) c.args.total (summed_over (total_of c.args.weights.now) (sym c.sum.ensures ∙ c.in_default.is)) c.ranges.total)

pub returns-then-total-sum : goal.returns-then-total-sum
unfolding sound
returns-then-total-sum c =
    let s = summed_fits (total_of c.args.weights.now) _ (sym c.sum.ensures ∙ c.in-Some.is) in
    rw (sym c.placed.ensures ∙ c.if-not-placed.false, ne_eqb c.args.total (total_of c.args.weights.now) (λ e. c.if-total-sum.true (e ∙ sym s.1)))

pub returns : goal.returns
unfolding sound
returns c =
    let s = summed_fits (total_of c.args.weights.now) _ (sym c.sum.ensures ∙ c.in-Some.is) in
    rw (sym c.placed.ensures ∙ c.if-not-placed.false, eq-eqb c.args.total (total_of c.args.weights.now) (c.if-total-sum.false ∙ s.1), c.threshold.ensures)
