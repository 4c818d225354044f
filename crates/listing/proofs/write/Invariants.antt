use Rattle.listing.specs.Written.{record_of}
use Rattle.listing.proofs.Rows.{Filled}
use Rattle.listing.proofs.write.Given as goal

abbrev pub invariant-loop-entry : goal.invariant-loop-entry
invariant-loop-entry l =
    Filled (record_of (record { counts = l.counts; first_block = l.first_block; first_signature = l.first_signature; second_target = l.second_target; second_number = l.second_number; second_signature = l.second_signature }) l.voters l.ids l.numbers) l.entries l.initial.out l.entry-index l.out l.used
