-- Document 01, "The journal": non-voters, duplicates and third pairs.
use Rattle.judging.specs.declared.ImportResult.{ImportResult}
use Rattle.judging.specs.declared.ImportResult.TheVariants.{Outside, Counted, Duplicated, Equivocated, Ignored}
use Rattle.std.specs.Prelude.{Result, Ok, Err}
use Rattle.refusals.specs.declared.Refusal.{Refusal}

abbrev pub Passed : Result ImportResult Refusal → Type 0
Passed (Ok Outside) = Unit {0}
Passed (Ok Duplicated) = Unit {0}
Passed (Ok Ignored) = Unit {0}
Passed (Ok Counted) = ⊥
Passed (Ok (Equivocated e)) = ⊥
Passed (Err n) = ⊥
