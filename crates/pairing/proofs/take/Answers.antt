use mathlib.Core.Path.{ap, ◌∙◌}
use native.Mathlib.Omega.{arith}
use borrow.Author.Tests.{le-leb, lt-leb}
use Rattle.marks.specs.Marks.{size}
use Rattle.runs.specs.Tried.{tried}
use Rattle.pairing.specs.Pairing.{paired}
use Rattle.pairing.proofs.Others.{paired_others}
use Rattle.pairing.proofs.take.Goals as goal

pub returns-then-pairs-ge-PAIRS : goal.returns-then-pairs-ge-PAIRS
unfolding tried paired
returns-then-pairs-ge-PAIRS c = record { fact = rw (c.over.ensures, c.in-Vt.is, le-leb _ _ c.if-pairs-ge-PAIRS.true); pairs_bound = rw c.over.ensures c.requires.0 }

pub word-requires : goal.word-requires
word-requires c = omega (arith, c.requires.1 ∙ ap size c.in-Vt.is)

pub long-requires : goal.long-requires
long-requires c = omega (arith, c.requires.1 ∙ ap size c.in-Vt.is)

pub returns-else-pairs-ge-PAIRS : goal.returns-else-pairs-ge-PAIRS
unfolding tried paired
returns-else-pairs-ge-PAIRS c = record { fact = rw (c.in-Vt.is, c.word.ensures.0, c.long.ensures, lt-leb _ _ c.if-pairs-ge-PAIRS.false); pairs_bound = omega arith }

pub returns-in-Rt : goal.returns-in-Rt
unfolding tried paired
returns-in-Rt c = record { fact = rw (c.over-in-Rt.ensures, c.in-Rt.is); pairs_bound = rw c.over-in-Rt.ensures c.requires.0 }

pub returns-in-Bk : goal.returns-in-Bk
unfolding tried
returns-in-Bk c = record { fact = rw (c.over-in-Bk.ensures, paired_others _ _ _ c.in-Bk.is); pairs_bound = rw c.over-in-Bk.ensures c.requires.0 }
