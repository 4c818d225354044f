use Rattle.journal.proofs.Done.{votes_ready, votes_done}
use Rattle.journal.proofs.from_votes.Goals as goal

pub run-ran-requires : goal.run-ran-requires
run-ran-requires c = votes_ready c.args.round c.requires _ c.words_of-rows.ensures.0

pub returns : goal.returns
returns c = (
  votes_done c.args.round c.requires _ c.words_of-rows.ensures.0 _ _ _ _ _ c.run-ran.ensures.end_value _ c.rows_of-rows_after.ensures _ c.no_pairs.ensures,
  (c.run-ran.ensures.count_le_at.1, c.run-ran.ensures.count_le_at.0),
)
