use mathlib.Core.Path.{sym, ◌∙◌}
use Rattle.loops.proofs.Tests.{T_true}
use Rattle.vote_graph.proofs.Shapes.{table_falls, not_graph, graph_is}
use borrow.Author.Rules.{rules}
use Rattle.vote_graph.proofs.VoteGraph.is_graph.Goals as goal

pub returns-then-not-is_table : goal.returns-then-not-is_table
returns-then-not-is_table c = not_graph _ _ (sym c.is_table.ensures ∙ c.if-not-is_table.true)

pub is_graph-requires : goal.is_graph-requires
is_graph-requires c = table_falls _ (T_true (sym c.is_table.ensures ∙ c.if-not-is_table.false))

pub returns : goal.returns
returns c =
    graph_is _ _ (sym c.is_table.ensures ∙ c.if-not-is_table.false) _ c.words_of-words.ensures.0 c.words_of-words.ensures.1
    (record { used_size = search rules; above_size = search rules; rows_size = search rules; row_size = c.words_of-words.ensures.1; order_size = search rules; heads_size = search rules })
    _ c.is_graph.ensures
