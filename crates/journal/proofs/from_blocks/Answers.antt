use native.Mathlib.Omega.{arith}
use Rattle.journal.proofs.Done.{grown_over, grown_ready, grown_done, later_fits, later_within}
use Rattle.journal.proofs.from_blocks.Goals as goal

pub open-requires : goal.open-requires
open-requires c = grown_ready _ _ c.requires _ _ c.run-ran.result.at _ _ c.run-ran.ensures.fact c.in-Left.is

pub later-requires : goal.later-requires
later-requires c = later_fits _ _ c.args.bytes.now c.run-ran.ensures.blocks_bound.1 c.run-ran.ensures.blocks_bound.2 c.«open».result c.«open».ensures.1.0 c.«open».ensures.1.1 (omega (arith, c.well_formed.1.1.0))

pub returns-in-Left : goal.returns-in-Left
returns-in-Left c = (
  grown_done _ _ c.requires _ _ c.run-ran.result.at _ _ c.run-ran.ensures.fact c.in-Left.is _ _ c.before.«open».ensures.0 c.later.ensures,
  later_within _ _ c.args.bytes.now c.run-ran.ensures.blocks_bound.1 c.run-ran.ensures.blocks_bound.2 c.before.«open».result c.before.«open».ensures.1.0 c.before.«open».ensures.1.1 _ c.later.ensures,
)

pub returns-in_default : goal.returns-in_default
returns-in_default c = (
  grown_over _ _ c.requires _ _ c.run-ran.result.at _ _ c.run-ran.ensures.fact c.in_default.not-Left _ c.with_blocks.ensures,
  (c.run-ran.ensures.blocks_bound.2, c.run-ran.ensures.blocks_bound.1),
)
