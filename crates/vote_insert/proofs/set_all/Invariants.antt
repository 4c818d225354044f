use mathlib.Core.Path.{◌≡◌}
use Rattle.loops.specs.Listing.{front}
use Rattle.vote_insert.specs.Insert.{set_all}
use Rattle.vote_insert.proofs.set_all.Given as goal

abbrev pub invariant-loop-member : goal.invariant-loop-member
invariant-loop-member l = l.above ≡ set_all l.initial.above (front l.member-index l.members) l.node
