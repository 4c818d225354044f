use Rattle.sizes.specs.Sizes.{VOTES}
use Rattle.lent.specs.Moment.{plain}
use Rattle.tracker.specs.Votes.{votes_at}
use mathlib.Core.Bool.{true}
use mathlib.Core.Path.{◌≡◌}
use Prim.Native.Nat.{◌≤◌}
use Rattle.loops.specs.All.{all}
use Rattle.vote_shape.specs.Voted.{tidy_at}
use Rattle.vote_shape.proofs.tidy.Given as goal

abbrev pub invariant-loop-j : goal.invariant-loop-j
invariant-loop-j l = (l.j ≤ VOTES) × (all l.j (tidy_at l.size (votes_at plain l.counts l.first_block l.first_signature l.second_target l.second_number l.second_signature)) ≡ true)
