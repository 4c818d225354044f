use Rattle.context.proofs.Sums.{phase_weight}
use Rattle.context.proofs.weighing.weight.Goals as goal

pub returns : goal.returns
returns c = rw (c.weigh_word.ensures, c.weigh_word-first.ensures, c.of_phase-left.ensures) (phase_weight _ _ _)
