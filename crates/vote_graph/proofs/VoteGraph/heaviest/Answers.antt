use Rattle.vote_graph.proofs.Standings.{standing_stands, ghost_is}
use Rattle.vote_graph.proofs.VoteGraph.heaviest.Goals as goal

pub find_ghost-requires : goal.find_ghost-requires
find_ghost-requires g c = (_, standing_stands _ _ _ c.requires _ c.words_of-words.ensures.0)

pub returns : goal.returns
returns g c = ghost_is _ _ _ _ c.words_of-words.ensures.0 _ _ c.find_ghost.ensures
