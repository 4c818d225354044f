use Rattle.vote_graph.proofs.Standings.{standing_stands, ancestor_is}
use Rattle.vote_graph.proofs.VoteGraph.ancestor.Goals as goal

pub find_ancestor-requires : goal.find_ancestor-requires
find_ancestor-requires g c = (_, _, standing_stands _ _ _ c.requires _ c.words_of-words.ensures.0)

pub returns : goal.returns
returns g c = ancestor_is _ _ _ _ c.words_of-words.ensures.0 _ _ c.find_ancestor.ensures
