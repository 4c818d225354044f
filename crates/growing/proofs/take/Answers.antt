use mathlib.Core.Path.{ap, ◌∙◌}
use Rattle.marks.specs.Marks.{size}
use Rattle.runs.specs.Tried.{tried}
use Rattle.growing.specs.Growing.{grown}
use Rattle.growing.proofs.Others.{grown_others}
use Rattle.growing.proofs.take.Goals as goal

pub grow-requires : goal.grow-requires
grow-requires c = (c.requires.0, c.requires.1 ∙ ap size c.in-Bk.is)

pub returns-in-Bk : goal.returns-in-Bk
returns-in-Bk c =
    record {
      fact = rw c.in-Bk.is c.grow.ensures.fact;
      indexed = c.grow.ensures.indexed;
    }

pub returns-in-Op : goal.returns-in-Op
unfolding tried grown
returns-in-Op c =
    record {
      fact = rw (c.over.ensures, c.in-Op.is);
      indexed = rw c.over.ensures c.requires.0;
    }

pub returns-in-Vt : goal.returns-in-Vt
unfolding tried
returns-in-Vt c =
    record {
      fact = rw (c.over-in-Vt.ensures, grown_others _ _ _ c.in-Vt.is);
      indexed = rw c.over-in-Vt.ensures c.requires.0;
    }
