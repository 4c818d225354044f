use Rattle.importing.specs.Import.{import}
use mathlib.Core.Path.{sym, ◌∙◌}
use native.Mathlib.Omega.{arith}
use Rattle.importing.proofs.Turns.{first_place, first_room, first_insertable, first_grounded, second_place, second_room, second_grounded, first_done, second_done}
use Rattle.importing.proofs.import.Goals as goal

pub judge-verdict-requires : goal.judge-verdict-requires
judge-verdict-requires c = (c.requires.sound.parents_fall, c.requires.sound.small, c.requires.voters_few, c.requires.sound.nodes.inside)

pub index-at-requires : goal.index-at-requires
index-at-requires c = first_place _ _ c.requires _ _ _ _ _ (sym c.judge-verdict.ensures ∙ c.in-First.is)

pub entry-requires : goal.entry-requires
entry-requires c = (c.index-at.ensures.1, omega arith)

pub offset_bounds-entries-count : goal.offset_bounds-entries-count
offset_bounds-entries-count c = omega (arith, first_room _ _ c.requires _ _ _ _ _ (sym c.judge-verdict.ensures ∙ c.in-First.is))

pub bounds-entries-count : goal.bounds-entries-count
bounds-entries-count c = first_room _ _ c.requires _ _ _ _ _ (sym c.judge-verdict.ensures ∙ c.in-First.is)

pub insert-counts-requires : goal.insert-counts-requires
insert-counts-requires c = first_insertable _ _ c.requires _ _ _ _ _ (sym c.judge-verdict.ensures ∙ c.in-First.is)

pub updated-answers-requires : goal.updated-answers-requires
updated-answers-requires c = (first_grounded _ _ c.requires _ _ _ _ _ (sym c.judge-verdict.ensures ∙ c.in-First.is) _ _ c.insert-counts.ensures, c.requires.stored)

pub overflow_add-result : goal.overflow_add-result
overflow_add-result c = omega (arith, first_room _ _ c.requires _ _ _ _ _ (sym c.judge-verdict.ensures ∙ c.in-First.is))

pub index-at-requires-in-Second : goal.index-at-requires-in-Second
index-at-requires-in-Second c = second_place _ _ c.requires _ _ _ _ _ (sym c.judge-verdict.ensures ∙ c.in-Second.is)

pub entry-requires-in-Second : goal.entry-requires-in-Second
entry-requires-in-Second c = (c.index-at-in-Second.ensures.1, omega arith)

pub offset_bounds-entries-count-in-Second : goal.offset_bounds-entries-count-in-Second
offset_bounds-entries-count-in-Second c = omega (arith, second_room _ _ c.requires _ _ _ _ _ (sym c.judge-verdict.ensures ∙ c.in-Second.is))

pub bounds-entries-count-in-Second : goal.bounds-entries-count-in-Second
bounds-entries-count-in-Second c = second_room _ _ c.requires _ _ _ _ _ (sym c.judge-verdict.ensures ∙ c.in-Second.is)

pub updated-answers-requires-in-Second : goal.updated-answers-requires-in-Second
updated-answers-requires-in-Second c = (second_grounded _ _ c.requires _ _ _ _ _ (sym c.judge-verdict.ensures ∙ c.in-Second.is), c.requires.stored)

pub overflow_add-result-in-Second : goal.overflow_add-result-in-Second
overflow_add-result-in-Second c = omega (arith, second_room _ _ c.requires _ _ _ _ _ (sym c.judge-verdict.ensures ∙ c.in-Second.is))

pub returns-in-Nothing : goal.returns-in-Nothing
unfolding import
returns-in-Nothing c = rw (sym c.judge-verdict.ensures ∙ c.in-Nothing.is)

pub returns-in-First : goal.returns-in-First
returns-in-First c = first_done _ _ c.requires _ _ _ _ _ (sym c.judge-verdict.ensures ∙ c.in-First.is) _ c.index-at.ensures.0 _ c.entry.ensures.0 _ c.insert-counts.ensures _ c.with_heard-more.ensures _ c.updated-answers.ensures

pub returns-in-Second : goal.returns-in-Second
returns-in-Second c = second_done _ _ c.requires _ _ _ _ _ (sym c.judge-verdict.ensures ∙ c.in-Second.is) _ c.index-at-in-Second.ensures.0 _ c.entry-in-Second.ensures.0 _ c.set_bit-more.ensures _ c.updated-answers-in-Second.ensures
