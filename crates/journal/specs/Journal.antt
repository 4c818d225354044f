-- A journal's state by value. Document 01, "The journal" and "Shape rules": what is handed in is tested; what is not yet told is blank.
use Rattle.std.specs.Prelude.{Bool, true, false, ◌&&◌, List, ℕ, ◌≤◌, leb, length, drop, Option, Some, None}
use Rattle.sizes.specs.Sizes.{PAIRS}
use Rattle.voter_set.specs.Good.{good}
use Rattle.block_shape.specs.Shape.{tabled}
use Rattle.graph_rows.specs.Rows.{rows_of}
use Rattle.runs.specs.Run.{Run, ran}
use Rattle.round.specs.declared.Round.{Round}
use Rattle.round.specs.Shape.{frame, held, shaped}
use Rattle.round.specs.Calls.{made, opened, nobody, no_blocks}
use Rattle.voting.specs.Voting.{Voting}
use Rattle.turns.specs.Turns as turns
use Rattle.turns.specs.Turns.{pairing, growing, voting, took, no_pairs}
use Rattle.journal.specs.declared.Turn.{Turn}
use Rattle.journal.specs.declared.Turn.TheVariants.{Voters, Blocks, Votes}
use Rattle.journal.specs.declared.Journal.{Journal}
use Rattle.journal.specs.declared.Progress.{Progress}

-- no call of a journal sets an index
unfoldable pub round_of : Voting → Round
round_of v = made v.frame v.held (rows_of v.held.graph.rows) None None

-- the state of the definitions by value
abbrev pub laid : turns.Journal → Journal
laid (pairing p) = record { turn = Voters; pairs = p; round = opened 0 nobody no_blocks 0 }
laid (growing v t) = record { turn = Blocks; pairs = no_pairs; round = opened 0 v t 0 }
laid (voting v) = record { turn = Votes; pairs = no_pairs; round = round_of v }

-- what a state by value tells: what is not yet told is not looked at
abbrev pub told_by : Turn → Journal → turns.Journal
told_by Voters j = pairing j.pairs
told_by Blocks j = growing j.round.context.voters j.round.table
told_by Votes j = voting (record { frame = frame j.round; held = held j.round })

unfoldable pub told : Journal → turns.Journal
told j = told_by j.turn j

abbrev pub unset : Option ℕ → Bool
unset None = true
unset (Some n) = false

-- the test of a state that is handed in
abbrev pub stands_by : Turn → Journal → Bool
stands_by Voters j = leb j.pairs.count PAIRS
stands_by Blocks j = good j.round.context.voters && tabled j.round.table
stands_by Votes j = shaped j.round && (unset j.round.history.prevoted && unset j.round.history.precommitted)

unfoldable pub stands : Journal → Bool
stands j = stands_by j.turn j

-- a run's state by value
abbrev pub by_value : Run turns.Journal → Run Journal
by_value r = record { state = laid r.state; count = r.count; rest = r.rest; end = r.end }

-- what code says of a run over some bytes
abbrev pub run_of : Progress → List ℕ → Run Journal
run_of p bs = record { state = p.journal; count = p.count; rest = drop p.at bs; end = p.end }

abbrev pub Within : Progress → List ℕ → Type 0
Within p bs = (p.at ≤ length bs) × (p.count ≤ p.at)

-- a run over some bytes, from a state of the definitions
unfoldable pub run_from : turns.Journal → List ℕ → Run Journal
run_from j bs = by_value (ran took j bs)
