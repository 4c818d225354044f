use mathlib.Core.Path.{sym, ◌∙◌}
use Rattle.loops.proofs.Tests.{T_true}
use Rattle.vote_graph.specs.Calls.{cumulative_vote}
use Rattle.vote_graph.proofs.Standings.{gate_falls, gate_few, found_in}
use Rattle.vote_graph.proofs.VoteGraph.cumulative_vote.Goals as goal

pub returns-then-not-is_graph : goal.returns-then-not-is_graph
unfolding cumulative_vote
returns-then-not-is_graph c = rw (sym c.is_graph.ensures ∙ c.if-not-is_graph.true)

pub find-requires : goal.find-requires
find-requires c = gate_few _ _ (sym c.is_graph.ensures ∙ c.if-not-is_graph.false)

pub returns-in_default : goal.returns-in_default
unfolding cumulative_vote
returns-in_default c = rw (sym c.is_graph.ensures ∙ c.if-not-is_graph.false, sym c.find.ensures ∙ c.in_default.is)

pub reaches-requires : goal.reaches-requires
reaches-requires c = gate_falls _ _ (sym c.is_graph.ensures ∙ c.if-not-is_graph.false)

pub returns-then-not-reaches : goal.returns-then-not-reaches
unfolding cumulative_vote
returns-then-not-reaches c = rw (sym c.is_graph.ensures ∙ c.if-not-is_graph.false, sym c.find.ensures ∙ c.in-Some.is, sym c.reaches.ensures ∙ c.if-not-reaches.true)

pub tally-requires : goal.tally-requires
tally-requires c =
    let h = sym c.is_graph.ensures ∙ c.if-not-is_graph.false in
    record { shaped = T_true h; inside = found_in _ _ h _ _ (sym c.find.ensures ∙ c.in-Some.is); in_base = T_true (sym c.reaches.ensures ∙ c.if-not-reaches.false) }

pub returns : goal.returns
unfolding cumulative_vote
returns c = rw (sym c.is_graph.ensures ∙ c.if-not-is_graph.false, sym c.find.ensures ∙ c.in-Some.is, sym c.reaches.ensures ∙ c.if-not-reaches.false, c.tally.ensures)
