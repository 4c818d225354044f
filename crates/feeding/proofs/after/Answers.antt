use mathlib.Core.Path.{ap}
use native.Mathlib.Omega.{arith}
use lib.ListN.{length}
use Rattle.runs.proofs.Turns.{part_drop}
use Rattle.feeding.proofs.Goes.{after_open, after_stopped, after_over}
use Rattle.feeding.proofs.after.Goals as goal

pub rest_of-rest-requires : goal.rest_of-rest-requires
rest_of-rest-requires c = omega (arith, c.requires.1 c.in-Cut.is, ap length (part_drop c.args.progress.at c.args.bytes.now))

pub returns-in-Cut : goal.returns-in-Cut
returns-in-Cut c = after_open _ c.args.progress c.args.bytes.now c.in-Cut.is _ c.rest_of-rest.ensures _ c.more-seen.ensures

pub returns-in-Refused : goal.returns-in-Refused
returns-in-Refused c = after_stopped _ c.args.progress c.args.bytes.now _ c.in-Refused.is _ c.more-seen.ensures _ c.stopped.ensures

pub returns-in-Left : goal.returns-in-Left
returns-in-Left c = after_over _ c.args.progress c.args.bytes.now c.in-Left.is _ c.more-seen.ensures _ c.stopped-in-Left.ensures
