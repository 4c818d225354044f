-- States reached by calls from an opened round. Document 01, "Shape rules": every reached state keeps them; demands 2 and 3 and later
-- promises on answers speak of these states.
use Rattle.std.specs.Prelude.{ℕ, ◌≤◌, ◌<◌}
use Rattle.weights.specs.Weights.{most}
use Rattle.voter_set.specs.Good.{Good}
use Rattle.blocks.specs.Add.{step}
use Rattle.block_shape.specs.Shape.{Shaped}
use Rattle.context.specs.declared.Phase.{Phase}
use Rattle.context.specs.declared.Phase.TheVariants.{Precommit}
use Rattle.tracker.specs.declared.Pair.{Pair}
use Rattle.answers.specs.Update.{phase_ghost, with_precommit}
use Rattle.importing.specs.Import.{Frame, with_table, Held, opened_held, scene, with_answers, import}

-- a round opens on voters and a table that keep their shape, at a block of the table
pub record Opens (f : Frame) : Type 0 where
  pub good : Good f.voters
  pub fits : f.voters.total ≤ most
  pub table : Shaped f.table
  pub in_table : f.base < f.table.count

-- `precommit_ghost` stores what it works out
abbrev pub sought : Frame → Held → Held
sought f h =
    with_answers h (with_precommit h.answers (phase_ghost (scene f h) Precommit h.heard.precommit h.answers.precommit))

-- what calls on a round make of its frame and of what it holds: votes, blocks that are added, and asking for the precommit-GHOST; a call
-- that refuses leaves all as it was. Today no call changes number, voters or base (`comes_number`, `comes_voters`, `comes_base`).
pub data Comes (f : Frame) (h : Held) : Frame → Held → Type 0 where
  here : Comes f h f h
  voted : (g : Frame) (i : Held) → Comes f h g i → (phase : Phase) (signer : ℕ) (p : Pair) → Comes f h g (import g phase signer p i).held
  added : (g : Frame) (i : Held) → Comes f h g i → (id parent : ℕ) → Comes f h (with_table g (step g.table id parent).table) i
  asked : (g : Frame) (i : Held) → Comes f h g i → Comes f h g (sought g i)

-- a state that calls make of an opened round
pub record Reached (f : Frame) (h : Held) : Type 0 where
  pub start : Frame
  pub opens : Opens start
  pub calls : Comes start (opened_held start.base) f h
