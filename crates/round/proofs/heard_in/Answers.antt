use Rattle.round.specs.Ask.{heard_in}
use Rattle.graph_rows.proofs.Copies.{words_at}
use Rattle.round.proofs.heard_in.Goals as goal

pub returns : goal.returns
unfolding heard_in
returns c = rw (c.heard.ensures, c.wide.ensures.0, words_at _ _)
