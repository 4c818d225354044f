use Rattle.listing.specs.Written.{pair_of}
use Rattle.listing.proofs.pair_of.Goals as goal

pub returns : goal.returns
unfolding pair_of
returns c = rw (c.chosen.ensures, c.recorded-recorded.ensures, c.entry_pair.ensures.0, c.entry_index.ensures.0)
