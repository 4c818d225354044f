use Rattle.round.specs.Calls.{opened}
use Rattle.round.proofs.opened.Goals as goal

pub returns : goal.returns
unfolding opened
returns c = rw (c.new.ensures, c.no_votes.ensures, c.no_answers.ensures, c.no_heard.ensures)
