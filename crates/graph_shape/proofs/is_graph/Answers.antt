use mathlib.Core.Path.{sym, ◌∙◌}
use borrow.Author.Rules.{rules}
use Rattle.graph_shape.specs.Graphed.{graphed}
use Rattle.loops.proofs.Tests.{T_true}
use Rattle.graph_shape.proofs.Counts.{counted_says}
use Rattle.graph_shape.proofs.is_graph.Goals as goal

pub returns-then-not-counted : goal.returns-then-not-counted
unfolding graphed
returns-then-not-counted c = rw (sym c.counted.ensures ∙ c.if-not-counted.true)

pub returns-then-not-inside : goal.returns-then-not-inside
unfolding graphed
returns-then-not-inside c = rw (sym c.counted.ensures ∙ c.if-not-counted.false, sym c.inside.ensures ∙ c.if-not-inside.true)

pub returns-then-not-tied : goal.returns-then-not-tied
unfolding graphed
returns-then-not-tied c = rw (sym c.counted.ensures ∙ c.if-not-counted.false, sym c.inside.ensures ∙ c.if-not-inside.false, ← c.others-rest.ensures, sym c.tied.ensures ∙ c.if-not-tied.true)

pub laid-requires : goal.laid-requires
laid-requires c = (search rules, (search rules, (counted_says _ _ _ _ _ (T_true (sym c.counted.ensures ∙ c.if-not-counted.false))).listed_fits))

pub returns-then-not-laid : goal.returns-then-not-laid
unfolding graphed
returns-then-not-laid c = rw (sym c.counted.ensures ∙ c.if-not-counted.false, sym c.inside.ensures ∙ c.if-not-inside.false, ← c.others-rest.ensures, sym c.tied.ensures ∙ c.if-not-tied.false, sym c.laid.ensures ∙ c.if-not-laid.true)

pub childless-ends-requires : goal.childless-ends-requires
childless-ends-requires c = (counted_says _ _ _ _ _ (T_true (sym c.counted.ensures ∙ c.if-not-counted.false))).listed_fits

pub laid-requires-2 : goal.laid-requires-2
laid-requires-2 c = (search rules, (search rules, (counted_says _ _ _ _ _ (T_true (sym c.counted.ensures ∙ c.if-not-counted.false))).tips_fit))

pub returns-then-not-laid-2 : goal.returns-then-not-laid-2
unfolding graphed
returns-then-not-laid-2 c = rw (sym c.counted.ensures ∙ c.if-not-counted.false, sym c.inside.ensures ∙ c.if-not-inside.false, ← c.others-rest.ensures, sym c.tied.ensures ∙ c.if-not-tied.false, sym c.laid.ensures ∙ c.if-not-laid.false, ← c.childless-ends.ensures, sym c.laid-2.ensures ∙ c.if-not-laid-2.true)

pub rising-requires : goal.rising-requires
rising-requires c = (counted_says _ _ _ _ _ (T_true (sym c.counted.ensures ∙ c.if-not-counted.false))).tips_fit

pub returns-then-not-rising : goal.returns-then-not-rising
unfolding graphed
returns-then-not-rising c = rw (sym c.counted.ensures ∙ c.if-not-counted.false, sym c.inside.ensures ∙ c.if-not-inside.false, ← c.others-rest.ensures, sym c.tied.ensures ∙ c.if-not-tied.false, sym c.laid.ensures ∙ c.if-not-laid.false, ← c.childless-ends.ensures, sym c.laid-2.ensures ∙ c.if-not-laid-2.false, sym c.rising.ensures ∙ c.if-not-rising.true)

pub returns : goal.returns
unfolding graphed
returns c = rw (sym c.counted.ensures ∙ c.if-not-counted.false, sym c.inside.ensures ∙ c.if-not-inside.false, ← c.others-rest.ensures, sym c.tied.ensures ∙ c.if-not-tied.false, sym c.laid.ensures ∙ c.if-not-laid.false, ← c.childless-ends.ensures, sym c.laid-2.ensures ∙ c.if-not-laid-2.false, sym c.rising.ensures ∙ c.if-not-rising.false) c.bare.ensures
