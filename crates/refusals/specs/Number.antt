-- The numbers of document 01, "Refusal numbers".
use Rattle.std.specs.Prelude.{ℕ}
use Rattle.refusals.specs.declared.Refusal.{Refusal}
use Rattle.refusals.specs.declared.Refusal.TheVariants.{VoterList, WeightOverflow, NoWeight, TooManyVoters, KnownBlock, UnknownParent, NumberOverflow, TableFull, Misshapen}
use Rattle.refusals.specs.declared.Refusal.TheVariants.{UnknownBase, UnknownTarget, WrongNumber, OffTheBase, ShortBuffer, NothingFinal, UnlikeViews, UnknownMark, OutOfTurn}

abbrev pub number : Refusal → ℕ
number VoterList = 1
number WeightOverflow = 2
number NoWeight = 3
number TooManyVoters = 4
number KnownBlock = 5
number UnknownParent = 6
number NumberOverflow = 7
number TableFull = 8
number Misshapen = 9
number UnknownBase = 10
number UnknownTarget = 11
number WrongNumber = 12
number OffTheBase = 13
number ShortBuffer = 14
number NothingFinal = 15
number UnlikeViews = 16
number UnknownMark = 17
number OutOfTurn = 18
