use native.Mathlib.Omega.{arith}
use Rattle.journal.proofs.Done.{paired_over, paired_read, paired_done, later_fits, later_within}
use Rattle.journal.proofs.from_voters.Goals as goal

pub root-requires : goal.root-requires
root-requires c = (c.run-ran.ensures.pairs_bound.0, paired_read _ c.requires _ _ c.run-ran.result.at _ _ c.run-ran.ensures.fact c.in-Left.is)

pub later-requires : goal.later-requires
later-requires c = later_fits _ _ c.args.bytes.now c.run-ran.ensures.pairs_bound.1 c.run-ran.ensures.pairs_bound.2 c.root.result c.root.ensures.1.0 c.root.ensures.1.1 (omega (arith, c.well_formed.1.0))

pub returns-in-Left : goal.returns-in-Left
returns-in-Left c = (
  paired_done _ c.requires _ _ c.run-ran.result.at _ _ c.run-ran.ensures.fact c.in-Left.is _ _ c.root.ensures.0 c.later.ensures,
  later_within _ _ c.args.bytes.now c.run-ran.ensures.pairs_bound.1 c.run-ran.ensures.pairs_bound.2 c.root.result c.root.ensures.1.0 c.root.ensures.1.1 _ c.later.ensures,
)

pub returns-in_default : goal.returns-in_default
returns-in_default c = (
  paired_over _ c.requires _ _ c.run-ran.result.at _ _ c.run-ran.ensures.fact c.in_default.not-Left _ c.with_pairs.ensures,
  (c.run-ran.ensures.pairs_bound.2, c.run-ran.ensures.pairs_bound.1),
)
