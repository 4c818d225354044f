use mathlib.Core.Path.{◌≡◌}
use Prim.Native.Nat.{◌≤◌, ◌-◌}
use Rattle.loops.specs.Listing.{keep}
use Rattle.entry_lists.specs.Entries.{entered}
use Rattle.listing.specs.Entries.{by_voter, wants}
use Rattle.listing.proofs.entries_of.Given as goal

abbrev pub invariant-loop-place : goal.invariant-loop-place
invariant-loop-place l =
    (l.place ≤ l.size) × (record { entries = l.entries; count = l.n } ≡ entered (keep (wants l.counts l.first_block l.parents l.wanted) (by_voter l.phase l.place)))

abbrev pub decreases-loop-place : goal.decreases-loop-place
decreases-loop-place l = l.size - l.place
