-- A record as code tries it on a state: the state after it, which is the one before where the record is not taken, and whether the
-- loop goes on.
use Rattle.std.specs.Prelude.{List, ℕ, ⊤}
use Rattle.marks.specs.declared.Mark.{Mark}
use Rattle.marks.specs.declared.End.TheVariants.{Refused, Left}
use Rattle.runs.specs.Run.{Next, goes, stops, leaves}
use Rattle.std.specs.declared.ops.ControlFlow.{ControlFlow}
use Rattle.std.specs.declared.ops.ControlFlow.TheVariants.{Continue, Break}
use Rattle.marks.specs.declared.End.{End}

pub record Tried (S : Type 0) : Type 0 where
  pub state : S
  pub turn : (ControlFlow End ⊤)

abbrev pub taken_or_not : {S : Type 0} → S → Next S → Tried S
taken_or_not s (goes t) = record { state = t; turn = Continue tt }
taken_or_not s (stops n) = record { state = s; turn = Break (Refused n) }
taken_or_not s leaves = record { state = s; turn = Break Left }

unfoldable pub tried : {S : Type 0} → (S → Mark → List ℕ → Next S) → S → Mark → List ℕ → Tried S
tried step s m fs = taken_or_not s (step s m fs)
