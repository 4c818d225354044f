use mathlib.Core.Path.{sym, ◌∙◌}
use Rattle.vote_shape.specs.Voted.{voted}
use Rattle.vote_shape.proofs.is_voted.Goals as goal

pub returns-then-not-tidy : goal.returns-then-not-tidy
unfolding voted
returns-then-not-tidy c = rw (sym c.tidy.ensures ∙ c.if-not-tidy.true)

pub returns-then-not-noded : goal.returns-then-not-noded
unfolding voted
returns-then-not-noded c = rw (sym c.tidy.ensures ∙ c.if-not-tidy.false, sym c.noded.ensures ∙ c.if-not-noded.true)

pub returns-then-not-told : goal.returns-then-not-told
unfolding voted
returns-then-not-told c = rw (sym c.tidy.ensures ∙ c.if-not-tidy.false, sym c.noded.ensures ∙ c.if-not-noded.false, sym c.told.ensures ∙ c.if-not-told.true)

pub returns-then-not-doubled : goal.returns-then-not-doubled
unfolding voted
returns-then-not-doubled c = rw (sym c.tidy.ensures ∙ c.if-not-tidy.false, sym c.noded.ensures ∙ c.if-not-noded.false, sym c.told.ensures ∙ c.if-not-told.false, sym c.doubled.ensures ∙ c.if-not-doubled.true)

pub returns : goal.returns
unfolding voted
returns c = rw (sym c.tidy.ensures ∙ c.if-not-tidy.false, sym c.noded.ensures ∙ c.if-not-noded.false, sym c.told.ensures ∙ c.if-not-told.false, sym c.doubled.ensures ∙ c.if-not-doubled.false) c.written.ensures
