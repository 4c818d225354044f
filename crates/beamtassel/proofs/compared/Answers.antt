use mathlib.Core.Path.{sym, ◌∙◌}
use Rattle.beamtassel.proofs.Called.{first_refused, second_refused, first_none, second_none, views_refused, views_done}
use Rattle.beamtassel.proofs.compared.Goals as goal

pub returns-in_err-one : goal.returns-in_err-one
returns-in_err-one c =
    first_refused c.requires.0 c.requires.1 c.args.out.now _ _ c.requires.2 c.requires.3 _ c.in_err-one.was _
    c.from_residual.ensures.1

pub returns-in_err-other : goal.returns-in_err-other
returns-in_err-other c =
    second_refused c.requires.0 c.requires.1 c.args.out.now _ _ c.requires.2 c.requires.3 c.in_ok-one.was _
    c.in_err-other.was _ c.from_residual-in_err-other.ensures.1

pub returns-then-not-has_round : goal.returns-then-not-has_round
returns-then-not-has_round c =
    first_none c.requires.0 c.requires.1 c.args.out.now _ _ c.requires.2 c.requires.3 c.in_ok-one.was
    c.in_ok-other.was (sym c.has_round.ensures ∙ c.if-not-has_round.true)

pub returns-then-not-has_round-2 : goal.returns-then-not-has_round-2
returns-then-not-has_round-2 c =
    second_none c.requires.0 c.requires.1 c.args.out.now _ _ c.requires.2 c.requires.3 c.in_ok-one.was
    c.in_ok-other.was (sym c.has_round.ensures ∙ c.if-not-has_round.false) (sym c.has_round-2.ensures ∙ c.if-not-has_round-2.true)

pub returns-in_err-weight : goal.returns-in_err-weight
returns-in_err-weight c =
    views_refused c.requires.0 c.requires.1 c.args.out.now _ _ c.requires.2 c.requires.3 c.in_ok-one.was
    c.in_ok-other.was (sym c.has_round.ensures ∙ c.if-not-has_round.false) (sym c.has_round-2.ensures ∙ c.if-not-has_round-2.false) _
    c.in_err-weight.ensures _ c.from_residual-in_err-weight.ensures.1

pub returns : goal.returns
returns c =
    views_done c.requires.0 c.requires.1 c.args.out.now _ _ c.requires.2 c.requires.3 c.in_ok-one.was
    c.in_ok-other.was (sym c.has_round.ensures ∙ c.if-not-has_round.false) (sym c.has_round-2.ensures ∙ c.if-not-has_round-2.false) _
    c.in_ok-weight.ensures _ _ c.put_weight.ensures
