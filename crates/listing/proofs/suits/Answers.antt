use Rattle.listing.proofs.suits.Goals as goal

pub returns-in-Finalizing : goal.returns-in-Finalizing
returns-in-Finalizing c = rw c.in-Finalizing.is c.finalizes.ensures
