use mathlib.Core.Path.{subst}
use Rattle.held_laws.specs.Kept.{Kept}
use Rattle.turns.specs.Stands.{Stands}
use Rattle.journal.proofs.Done.{told_voters, told_blocks, told_votes, by_turn}
use Rattle.journal.proofs.Journal.run.Goals as goal

pub from_voters-requires : goal.from_voters-requires
from_voters-requires c = subst (Stands Kept) (told_voters c.args.self c.in-Voters.is) c.requires

pub from_blocks-requires : goal.from_blocks-requires
from_blocks-requires c = subst (Stands Kept) (told_blocks c.args.self c.in-Blocks.is) c.requires

pub from_votes-requires : goal.from_votes-requires
from_votes-requires c = subst (Stands Kept) (told_votes c.args.self c.in-Votes.is) c.requires

pub returns-in-Voters : goal.returns-in-Voters
returns-in-Voters c = (by_turn _ _ (told_voters c.args.self c.in-Voters.is) _ _ c.from_voters.ensures.0, c.from_voters.ensures.1)

pub returns-in-Blocks : goal.returns-in-Blocks
returns-in-Blocks c = (by_turn _ _ (told_blocks c.args.self c.in-Blocks.is) _ _ c.from_blocks.ensures.0, c.from_blocks.ensures.1)

pub returns-in-Votes : goal.returns-in-Votes
returns-in-Votes c = (by_turn _ _ (told_votes c.args.self c.in-Votes.is) _ _ c.from_votes.ensures.0, c.from_votes.ensures.1)
