use borrow.Author.Rules.{rules}
use mathlib.Core.Path.{sym, ◌∙◌}
use Rattle.vote_graph.specs.Calls.{find_ancestor}
use Rattle.vote_graph.proofs.Standings.{gate_falls, gate_few, target_stands}
use Rattle.vote_graph.proofs.VoteGraph.find_ancestor.Goals as goal

pub returns-then-not-is_graph : goal.returns-then-not-is_graph
unfolding find_ancestor
returns-then-not-is_graph g c = rw (sym c.is_graph.ensures ∙ c.if-not-is_graph.true)

pub of-requires : goal.of-requires
of-requires g c =
    let h = sym c.is_graph.ensures ∙ c.if-not-is_graph.false in
    (gate_falls _ _ h, gate_few _ _ h)

pub ancestor-requires : goal.ancestor-requires
ancestor-requires g c = target_stands _ _ (sym c.is_graph.ensures ∙ c.if-not-is_graph.false) _ _ (sym c.of.ensures ∙ c.in_ok-place.was)

pub returns-in_err-place : goal.returns-in_err-place
unfolding find_ancestor
returns-in_err-place g c = rw (sym c.is_graph.ensures ∙ c.if-not-is_graph.false, sym c.of.ensures ∙ c.in_err-place.was) (search rules)

pub returns : goal.returns
unfolding find_ancestor
returns g c = rw (sym c.is_graph.ensures ∙ c.if-not-is_graph.false, sym c.of.ensures ∙ c.in_ok-place.was, c.ancestor.ensures)
