use Rattle.figures.specs.Figures.{figures}
use Rattle.figures.proofs.figures.Goals as goal

pub returns : goal.returns
unfolding figures
returns c = rw (c.ended_by-end.ensures, c.shown-ghost_block.ensures, c.shown-estimate.ensures, c.shown-finalized.ensures, c.flag.ensures)
