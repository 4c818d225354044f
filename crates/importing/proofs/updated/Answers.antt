use Rattle.importing.proofs.Inside.{renewed_in}
use Rattle.importing.proofs.updated.Goals as goal

pub update-requires : goal.update-requires
update-requires c = (c.requires.0, rw c.with_ghost-renewed.ensures (renewed_in _ c.requires.0 c.args.heard c.args.phase _ c.requires.1))

pub returns : goal.returns
returns c = rw (c.update.ensures, c.with_ghost-renewed.ensures)
