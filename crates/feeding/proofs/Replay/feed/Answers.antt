use native.Mathlib.Omega.{arith}
use mathlib.Core.Path.{sym, ◌∙◌}
use Prim.Native.Nat.{◌≤◌}
use Rattle.weights.specs.Weights.{most}
use Rattle.feeding.specs.Feeding.{fed}
use Rattle.feeding.proofs.Goes.{feed_ready}
use Rattle.feeding.proofs.Replay.feed.Goals as goal

pub returns-then-not-is_replay : goal.returns-then-not-is_replay
unfolding fed
returns-then-not-is_replay c = rw (sym c.is_replay.ensures ∙ c.if-not-is_replay.true)

pub went-replay-requires : goal.went-replay-requires
went-replay-requires c =
    let l : c.args.self.journal.round.context.voters.total ≤ most = omega (arith, c.well_formed.0.1.1.0.1.1.1.1.0.1.1.1.0.1.1.0.1.1.1.1.1.1.0) in
    feed_ready c.args.self l (sym c.is_replay.ensures ∙ c.if-not-is_replay.false)

pub returns-in-Err : goal.returns-in-Err
unfolding fed
returns-in-Err c = rw (sym c.is_replay.ensures ∙ c.if-not-is_replay.false, c.in-Err.is)

pub returns-in-Ok : goal.returns-in-Ok
unfolding fed
returns-in-Ok c = rw (sym c.is_replay.ensures ∙ c.if-not-is_replay.false, c.in-Ok.is, c.went-replay.ensures)
