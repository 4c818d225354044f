-- The round of a journal. Document 01, "The journal": an end before Op prints `no round`.
use Rattle.std.specs.Prelude.{List, ◌≡◌, ℕ}
use Rattle.round.specs.declared.Round.{Round}
use Rattle.journal.specs.declared.Turn.TheVariants.{Votes}
use Rattle.feeding.specs.Feeding.{replayed}

-- the Op is among the records taken
abbrev pub HasRound : List ℕ → Type 0
HasRound bs = (replayed bs).journal.turn ≡ Votes

abbrev pub round_in : List ℕ → Round
round_in bs = (replayed bs).journal.round
