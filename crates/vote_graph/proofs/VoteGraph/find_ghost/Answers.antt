use borrow.Author.Rules.{rules}
use mathlib.Core.Path.{sym, ◌∙◌}
use Rattle.vote_graph.specs.Calls.{find_ghost}
use Rattle.vote_graph.proofs.Standings.{gate_falls, start_stands}
use Rattle.vote_graph.proofs.VoteGraph.find_ghost.Goals as goal

pub returns-then-not-is_graph : goal.returns-then-not-is_graph
unfolding find_ghost
returns-then-not-is_graph g c = rw (sym c.is_graph.ensures ∙ c.if-not-is_graph.true)

pub start-requires : goal.start-requires
start-requires g c = gate_falls _ _ (sym c.is_graph.ensures ∙ c.if-not-is_graph.false)

pub heaviest-requires : goal.heaviest-requires
heaviest-requires g c = start_stands _ _ (sym c.is_graph.ensures ∙ c.if-not-is_graph.false) _ _ (sym c.start.ensures ∙ c.in_ok-place.was)

pub returns-in_err-place : goal.returns-in_err-place
unfolding find_ghost
returns-in_err-place g c = rw (sym c.is_graph.ensures ∙ c.if-not-is_graph.false, sym c.start.ensures ∙ c.in_err-place.was) (search rules)

pub returns : goal.returns
unfolding find_ghost
returns g c = rw (sym c.is_graph.ensures ∙ c.if-not-is_graph.false, sym c.start.ensures ∙ c.in_ok-place.was, c.heaviest.ensures)
