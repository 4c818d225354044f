use native.Mathlib.Omega.{arith}
use Rattle.turns.specs.Turns.{no_pairs}
use Rattle.journal.proofs.Done.{paired_read}
use Rattle.summing.proofs.Told.{pairs_on, pairs_cut, pairs_refused, whole}
use Rattle.summing.proofs.replayed.Goals as goal

pub root-requires : goal.root-requires
root-requires c = (c.run-ran.ensures.pairs_bound.0, paired_read no_pairs (omega arith) _ _ c.run-ran.result.at _ _ c.run-ran.ensures.fact c.in-Left.is)

pub returns-in-Left : goal.returns-in-Left
returns-in-Left c = whole _ _ (pairs_on 0 no_pairs (omega arith) _ _ c.run-ran.result.at _ _ c.run-ran.ensures.fact _ c.more-seen.ensures _ c.in-Left.is c.root.ensures)

pub returns-in-Cut : goal.returns-in-Cut
returns-in-Cut c = whole _ _ (pairs_cut 0 no_pairs (omega arith) _ _ c.run-ran.result.at _ _ c.run-ran.ensures.fact _ c.more-seen.ensures _ c.in-Cut.is c.bare.ensures)

pub returns-in-Refused : goal.returns-in-Refused
returns-in-Refused c = whole _ _ (pairs_refused 0 no_pairs (omega arith) _ _ c.run-ran.result.at _ _ c.run-ran.ensures.fact _ c.more-seen.ensures _ _ c.in-Refused.is c.bare-in-Refused.ensures)
