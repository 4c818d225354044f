use mathlib.Core.Path.{sym, ◌∙◌}
use Rattle.vote_search.proofs.Descents.{ghost_none, ghost_some}
use Rattle.vote_search.proofs.find_ghost.Goals as goal

pub returns-then-not-passes : goal.returns-then-not-passes
returns-then-not-passes g c =
    sym ((ghost_none _ _ _ _ _ c.requires.1.sound _ _ c.requires.1.in_base _ c.cumulative_vote-votes.ensures _ c.unwrap_or-bits.ensures (sym c.passes.ensures ∙ c.if-not-passes.true)))

pub descend-requires : goal.descend-requires
descend-requires g c = (_, _, _, c.requires.1)

pub returns : goal.returns
returns g c =
    sym ((ghost_some _ _ _ _ _ c.requires.1.sound _ _ c.requires.1.in_base _ c.cumulative_vote-votes.ensures _ c.unwrap_or-bits.ensures (sym c.passes.ensures ∙ c.if-not-passes.false) _ c.descend.ensures))
