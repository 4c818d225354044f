use mathlib.Core.Path.{sym, ◌∙◌}
use Rattle.beamtassel.proofs.Called.{finalizing_refused, finalizing_none, finalizing_done}
use Rattle.beamtassel.proofs.finalizing.Goals as goal

pub returns-in_err-replay : goal.returns-in_err-replay
returns-in_err-replay c = finalizing_refused c.args.journal.now c.args.out.now _ c.replayed-replay.ensures _ c.in_err-replay.was _ c.from_residual.ensures.1

pub returns-then-not-has_round : goal.returns-then-not-has_round
returns-then-not-has_round c =
    finalizing_none c.args.journal.now c.args.out.now _ c.replayed-replay.ensures c.in_ok-replay.was (sym c.has_round.ensures ∙ c.if-not-has_round.true)

pub returns : goal.returns
returns c =
    finalizing_done c.args.journal.now c.args.out.now _ c.replayed-replay.ensures c.in_ok-replay.was
    (sym c.has_round.ensures ∙ c.if-not-has_round.false) _ _ c.finalizing_precommits.ensures
