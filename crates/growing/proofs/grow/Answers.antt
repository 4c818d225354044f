use Rattle.growing.proofs.Adds.{add_done}
use Rattle.growing.proofs.grow.Goals as goal

pub add-answer-requires : goal.add-answer-requires
add-answer-requires c = c.requires.0

pub counted-requires : goal.counted-requires
counted-requires c = c.requires.0.few

pub returns : goal.returns
returns c =
    record {
      fact = (add_done _ c.requires.0.few _ _ _ c.word-id.ensures.0 c.word-parent.ensures.0 _ _ c.add-answer.ensures.fact _ c.turn.ensures _ c.counted.ensures).0;
      indexed = rw c.counted.ensures c.add-answer.ensures.indexed;
    }
