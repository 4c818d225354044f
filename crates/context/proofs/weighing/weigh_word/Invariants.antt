use mathlib.Core.Path.{◌≡◌}
use Prim.Native.Nat.{◌+◌, ◌/◌, ◌^◌, ◌≤◌, ◌<◌}
use lib.ListN.{get_or}
use Rattle.loops.specs.Sum.{sum, weigh}
use Rattle.weights.specs.Weights.{most, plus}
use Rattle.bitfield.specs.Bits.{in_word}
use Rattle.context.proofs.weighing.weigh_word.Given as goal

abbrev pub invariant-loop-left : goal.invariant-loop-left
invariant-loop-left l =
    (l.left < 2 ^ 64)
    × (l.sum ≤ most)
    × (plus l.sum (weigh 64 (in_word l.left) (λ b. get_or l.weights (l.first + b / 2) 0)) ≡ plus l.start (weigh 64 (in_word l.word) (λ b. get_or l.weights (l.first + b / 2) 0)))

abbrev pub decreases-loop-left : goal.decreases-loop-left
decreases-loop-left l = l.left
