use mathlib.Core.Path.{sym, ap, ◌∙◌}
use Rattle.marks.specs.Marks.{size}
use Rattle.voting.proofs.Votes.{is_block, vote_size, vote_room, block_room, block_done, vote_ready, vote_done, other_done}
use Rattle.voting.proofs.take.Goals as goal

pub add-took-requires : goal.add-took-requires
add-took-requires c = (block_room _ _ c.requires.0, c.requires.1 ∙ ap size (is_block c.args.mark (sym c.in-Block.is ∙ c.kind_of.ensures)))

pub word-signer-requires : goal.word-signer-requires
word-signer-requires c = vote_room c.args.mark _ c.args.fields.now c.requires.1 (sym c.in-Vote.is ∙ c.kind_of.ensures)

pub pair-cast-requires : goal.pair-cast-requires
pair-cast-requires c = c.requires.1 ∙ vote_size c.args.mark _ (sym c.in-Vote.is ∙ c.kind_of.ensures)

pub import-step-requires : goal.import-step-requires
import-step-requires c = vote_ready _ _ c.requires.0

pub returns-in-Block : goal.returns-in-Block
returns-in-Block c = block_done _ _ c.requires.0 _ _ (sym c.in-Block.is ∙ c.kind_of.ensures) _ _ c.add-took.ensures.fact

pub returns-in-Vote : goal.returns-in-Vote
returns-in-Vote c =
    vote_done _ _ c.requires.0 _ _ _ _ _ (sym c.in-Vote.is ∙ c.kind_of.ensures) c.word-signer.ensures.0 c.pair-cast.ensures _ _ c.import-step.ensures _ c.turn.ensures

pub returns-in-Other : goal.returns-in-Other
returns-in-Other c = other_done _ _ c.requires.0 _ _ (sym c.in-Other.is ∙ c.kind_of.ensures)
