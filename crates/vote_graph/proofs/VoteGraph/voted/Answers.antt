use Rattle.vote_graph.proofs.Standings.{standing_insertable, standing_rows, voted_is}
use Rattle.vote_graph.proofs.VoteGraph.voted.Goals as goal

pub insert-counts-requires : goal.insert-counts-requires
insert-counts-requires c = standing_insertable _ _ _ c.requires _ c.words_of-words.ensures.0

pub rows_of-next-requires : goal.rows_of-next-requires
rows_of-next-requires c = standing_rows _ _ _ c.requires _ c.words_of-words.ensures.0 _ _ c.insert-counts.ensures

pub returns : goal.returns
returns c = voted_is _ _ _ _ c.words_of-words.ensures.0 _ _ c.insert-counts.ensures _ c.rows_of-next.ensures
