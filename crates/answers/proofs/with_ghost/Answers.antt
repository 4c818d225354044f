use Rattle.answers.proofs.Steps.{ghost_anew, ghost_kept}
use Rattle.answers.proofs.with_ghost.Goals as goal

pub returns-in-Prevote : goal.returns-in-Prevote
returns-in-Prevote c = ghost_anew _ c.args.heard _ _ c.in-Prevote.is _ c.phase_ghost-found.ensures

pub returns-in-Precommit : goal.returns-in-Precommit
returns-in-Precommit c = ghost_kept _ c.args.heard _ _ c.in-Precommit.is
