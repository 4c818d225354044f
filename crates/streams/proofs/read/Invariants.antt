use Rattle.std.proofs.Common.{◌≡◌, ◌<◌, length}
use Rattle.streams.proofs.read.Given as goal

abbrev pub invariant-loop : goal.invariant-loop
invariant-loop g l = (l.done < length l.space) × (length l.space ≡ length l.initial.space)
