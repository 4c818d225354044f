use Prim.Native.Nat.{◌-◌}
use lib.ListN.{length}
use Rattle.lent.specs.Moment.{plain}
use Rattle.importing.specs.Lent.{frame_at, held_at}
use Rattle.voting.proofs.Votes.{VotedSoFar}
use Rattle.voting.proofs.run.Given as goal

abbrev pub invariant-loop-mark : goal.invariant-loop-mark
invariant-loop-mark l =
    VotedSoFar
    (frame_at plain l.voters l.weights l.size l.total l.threshold l.number l.initial.ids l.initial.numbers l.initial.parents l.blocks l.base)
    (held_at plain l.initial.used l.initial.above l.initial.rows l.initial.order l.initial.heads l.initial.counts l.initial.first_block l.initial.first_signature l.initial.second_target l.initial.second_number l.initial.second_signature l.initial.entries l.initial.standing)
    l.bytes
    (frame_at plain l.voters l.weights l.size l.total l.threshold l.number l.ids l.numbers l.parents l.grown l.base)
    (held_at plain l.used l.above l.rows l.order l.heads l.counts l.first_block l.first_signature l.second_target l.second_number l.second_signature l.entries l.standing)
    l.taken l.at

abbrev pub decreases-loop-mark : goal.decreases-loop-mark
decreases-loop-mark l =
    length l.bytes - l.at
