use mathlib.Core.Path.{ap, ◌∙◌}
use lib.ListN.{length}
use Rattle.importing.specs.Import.{Taken}
use Rattle.round.proofs.Steps.{lent_ready, import_done, import_sized}
use Rattle.round.proofs.Round.import.Goals as goal

pub import-step-requires : goal.import-step-requires
import-step-requires c = lent_ready _ c.requires _ c.words_of-words.ensures.0

pub rows_of-rows-requires : goal.rows_of-rows-requires
rows_of-rows-requires c = ap (λ (x : Taken). length x.held.graph.rows) c.import-step.ensures ∙ import_sized _ _ (lent_ready _ c.requires _ c.words_of-words.ensures.0) _ _ _

pub returns : goal.returns
returns c = import_done _ c.requires _ c.words_of-words.ensures.0 _ _ _ _ c.import-step.ensures _ c.rows_of-rows.ensures
