use Rattle.vote_graph.proofs.Standings.{standing_tally, tally_is}
use Rattle.vote_graph.proofs.VoteGraph.tally.Goals as goal

pub cumulative_vote-requires : goal.cumulative_vote-requires
cumulative_vote-requires c = standing_tally _ _ _ c.requires _ c.words_of-words.ensures.0

pub returns : goal.returns
returns c = tally_is _ _ _ _ c.words_of-words.ensures.0 _ c.cumulative_vote.ensures
