use Rattle.columns.specs.Lists.{padded}
use Rattle.graph_rows.specs.Rows.{rows_of}
use Rattle.vote_insert.specs.Insert.{opened}
use Rattle.vote_graph.proofs.VoteGraph.new.Goals as goal

pub returns : goal.returns
unfolding opened rows_of padded
returns c = rw c.wide-at.ensures.0
