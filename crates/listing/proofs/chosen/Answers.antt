use Rattle.listing.proofs.chosen.Goals as goal

pub returns-in-Silent : goal.returns-in-Silent
returns-in-Silent c = rw c.in-Silent.is
