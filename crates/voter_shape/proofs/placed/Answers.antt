use mathlib.Core.Path.{sym, ◌∙◌}
use borrow.Author.Tests.{eq-eqb, ne_eqb, le-leb, lt-leb}
use Rattle.sizes.specs.Sizes.{VOTERS}
use Rattle.voter_shape.specs.Sound.{placed}
use Rattle.voter_shape.proofs.placed.Goals as goal

pub returns-then-ids-ne-VOTERS : goal.returns-then-ids-ne-VOTERS
unfolding placed
returns-then-ids-ne-VOTERS c = rw (ne_eqb _ VOTERS c.if-ids-ne-VOTERS.true)

pub returns-then-weights-ne-VOTERS : goal.returns-then-weights-ne-VOTERS
unfolding placed
returns-then-weights-ne-VOTERS c = rw (eq-eqb _ VOTERS c.if-ids-ne-VOTERS.false, ne_eqb _ VOTERS c.if-weights-ne-VOTERS.true)

pub returns-then-count-gt-VOTERS : goal.returns-then-count-gt-VOTERS
unfolding placed
returns-then-count-gt-VOTERS c = rw (eq-eqb _ VOTERS c.if-ids-ne-VOTERS.false, eq-eqb _ VOTERS c.if-weights-ne-VOTERS.false, lt-leb _ VOTERS c.if-count-gt-VOTERS.true)

pub returns-then-not-rising : goal.returns-then-not-rising
unfolding placed
returns-then-not-rising c = rw (eq-eqb _ VOTERS c.if-ids-ne-VOTERS.false, eq-eqb _ VOTERS c.if-weights-ne-VOTERS.false, le-leb _ VOTERS c.if-count-gt-VOTERS.false, sym c.rising.ensures ∙ c.if-not-rising.true)

pub returns-then-not-non_zero : goal.returns-then-not-non_zero
unfolding placed
returns-then-not-non_zero c = rw (eq-eqb _ VOTERS c.if-ids-ne-VOTERS.false, eq-eqb _ VOTERS c.if-weights-ne-VOTERS.false, le-leb _ VOTERS c.if-count-gt-VOTERS.false, sym c.rising.ensures ∙ c.if-not-rising.false, sym c.non_zero.ensures ∙ c.if-not-non_zero.true)

pub returns-else-blank : goal.returns-else-blank
unfolding placed
returns-else-blank c =
    let ids = eq-eqb _ VOTERS c.if-ids-ne-VOTERS.false in
    let weights = eq-eqb _ VOTERS c.if-weights-ne-VOTERS.false in
    let few = le-leb _ VOTERS c.if-count-gt-VOTERS.false in
    let rise = sym c.rising.ensures ∙ c.if-not-rising.false in
    let some = sym c.non_zero.ensures ∙ c.if-not-non_zero.false in
    let left = sym (rw c.if-ids-ne-VOTERS.false at c.blank.ensures) ∙ c.if-blank.false in
    rw (ids, weights, few, rise, some, left) c.if-blank.false

pub returns-then-blank : goal.returns-then-blank
unfolding placed
returns-then-blank c =
    let ids = eq-eqb _ VOTERS c.if-ids-ne-VOTERS.false in
    let weights = eq-eqb _ VOTERS c.if-weights-ne-VOTERS.false in
    let few = le-leb _ VOTERS c.if-count-gt-VOTERS.false in
    let rise = sym c.rising.ensures ∙ c.if-not-rising.false in
    let some = sym c.non_zero.ensures ∙ c.if-not-non_zero.false in
    let none = sym (rw c.if-ids-ne-VOTERS.false at c.blank.ensures) ∙ c.if-blank.true in
    rw (ids, weights, few, rise, some, none) (rw c.if-weights-ne-VOTERS.false at c.blank-then-blank.ensures)
