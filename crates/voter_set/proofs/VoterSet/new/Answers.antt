use mathlib.Core.Path.{sym, ◌∙◌}
use borrow.Author.Tests.{eq-eqb, ne_eqb, lt-ltb, le-ltb, ltb-false}
use Rattle.totals.specs.Totals.{total_of}
use Rattle.totals.proofs.Turns.{summed_over, summed_fits}
use Rattle.voter_set.specs.Voters.{new}
use Rattle.voter_set.proofs.Steps.{seat_gathered}
use Rattle.voter_set.proofs.VoterSet.new.Goals as goal

pub returns-then-ids-weights : goal.returns-then-ids-weights
unfolding new
returns-then-ids-weights c = rw (ne_eqb _ _ c.if-ids-weights.true)

pub returns-then-ids-gt-PAIRS : goal.returns-then-ids-gt-PAIRS
unfolding new
returns-then-ids-gt-PAIRS c = rw (eq-eqb _ _ c.if-ids-weights.false, lt-ltb _ _ c.if-ids-gt-PAIRS.true)

pub returns-in_default : goal.returns-in_default
unfolding new
returns-in_default c = rw (eq-eqb _ _ c.if-ids-weights.false, le-ltb _ _ c.if-ids-gt-PAIRS.false, summed_over (total_of c.args.weights.now) (sym c.sum.ensures ∙ c.in_default.is))

pub returns-then-total-eq0 : goal.returns-then-total-eq0
unfolding new
returns-then-total-eq0 c =
    let s = summed_fits (total_of c.args.weights.now) _ (sym c.sum.ensures ∙ c.in-Some.is) in
    rw (eq-eqb _ _ c.if-ids-weights.false, le-ltb _ _ c.if-ids-gt-PAIRS.false, s.0, eq-eqb _ 0 (sym s.1 ∙ c.if-total-eq0.true))

pub gather-requires : goal.gather-requires
gather-requires c =
    let s = summed_fits (total_of c.args.weights.now) _ (sym c.sum.ensures ∙ c.in-Some.is) in
    (c.if-ids-weights.false, ltb-false _ _ s.0)

pub returns : goal.returns
unfolding new
returns c =
    let s = summed_fits (total_of c.args.weights.now) _ (sym c.sum.ensures ∙ c.in-Some.is) in
    rw (c.seat.ensures, c.gather.ensures, seat_gathered _ _, s.1, eq-eqb _ _ c.if-ids-weights.false, le-ltb _ _ c.if-ids-gt-PAIRS.false, s.0, ne_eqb (total_of c.args.weights.now) 0 (λ e. c.if-total-eq0.false (s.1 ∙ e)))
