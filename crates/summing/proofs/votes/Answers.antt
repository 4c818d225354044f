use Rattle.summing.proofs.Told.{votes_ready, votes_told}
use Rattle.summing.proofs.votes.Goals as goal

pub run-ran-requires : goal.run-ran-requires
run-ran-requires c = votes_ready _ _ c.wide-at.ensures.0 _ c.blank.ensures c.requires

pub returns : goal.returns
returns c = votes_told _ _ c.wide-at.ensures.0 _ c.blank.ensures c.requires _ _ _ c.run-ran.result.at _ _ c.run-ran.ensures.end_value _ c.more.ensures _ c.closed.ensures
