use mathlib.Core.Path.{sym, ◌∙◌}
use Rattle.vote_graph.specs.Calls.{insert}
use Rattle.vote_graph.proofs.Standings.{gate_falls, gate_few, target_stands}
use Rattle.vote_graph.proofs.VoteGraph.insert.Goals as goal

pub returns-then-not-is_graph : goal.returns-then-not-is_graph
unfolding insert
returns-then-not-is_graph c = rw (sym c.is_graph.ensures ∙ c.if-not-is_graph.true)

pub of-requires : goal.of-requires
of-requires c =
    let h = sym c.is_graph.ensures ∙ c.if-not-is_graph.false in
    (gate_falls _ _ h, gate_few _ _ h)

pub voted-graph-requires : goal.voted-graph-requires
voted-graph-requires c = target_stands _ _ (sym c.is_graph.ensures ∙ c.if-not-is_graph.false) _ _ (sym c.of.ensures ∙ c.in-Ok.is)

pub returns-in-Err : goal.returns-in-Err
unfolding insert
returns-in-Err c = rw (sym c.is_graph.ensures ∙ c.if-not-is_graph.false, sym c.of.ensures ∙ c.in-Err.is)

pub returns-in-Ok : goal.returns-in-Ok
unfolding insert
returns-in-Ok c = rw (sym c.is_graph.ensures ∙ c.if-not-is_graph.false, sym c.of.ensures ∙ c.in-Ok.is, c.voted-graph.ensures)
