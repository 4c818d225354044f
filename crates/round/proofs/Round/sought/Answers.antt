use Rattle.round.proofs.Steps.{lent_grounded, precommit_in, sought_done}
use Rattle.round.proofs.Round.sought.Goals as goal

pub phase_ghost-requires : goal.phase_ghost-requires
phase_ghost-requires c = (lent_grounded _ c.requires _ c.words_of-words.ensures.0, precommit_in _ c.requires)

pub returns : goal.returns
returns c = sought_done _ c.requires _ c.words_of-words.ensures.0 _ c.phase_ghost.ensures
