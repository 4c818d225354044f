use Rattle.growing.proofs.Adds.{add_done}
use Rattle.growing.proofs.add.Goals as goal

pub returns : goal.returns
returns c =
    let done = add_done _ c.requires.0 _ _ _ c.word-id.ensures.0 c.word-parent.ensures.0 _ _ c.add-answer.ensures _ c.turn.ensures _ c.counted.ensures in
    record { fact = done.0; blocks_bound = done.1 }
