-- The marks of votes. Document 01, "The journal": Pv, Pc.
use Rattle.context.specs.declared.Phase.{Phase}
use Rattle.context.specs.declared.Phase.TheVariants.{Prevote, Precommit}
use Rattle.marks.specs.declared.Mark.{Mark}
use Rattle.marks.specs.declared.Mark.TheVariants.{Pv, Pc}

abbrev pub mark_of : Phase → Mark
mark_of Prevote = Pv
mark_of Precommit = Pc
