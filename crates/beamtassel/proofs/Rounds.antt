-- The round of a journal passes its test: no call here is refused with 9.
use mathlib.Core.Bool.{true, ◌&&◌}
use mathlib.Core.List.{List}
use mathlib.Core.Path.{◌≡◌}
use Prim.Native.Nat.{ℕ}
use lib.Dec.{T}
use Rattle.loops.proofs.Tests.{T_true, true_T, left_of}
use Rattle.round.specs.Shape.{shaped}
use Rattle.journal.specs.declared.Turn.{Turn}
use Rattle.journal.specs.declared.Turn.TheVariants.{Voters, Blocks, Votes}
use Rattle.journal.specs.declared.Journal.{Journal}
use Rattle.journal.specs.Journal as journal
use Rattle.journal.specs.Journal.{unset, stands_by}
use Rattle.feeding.specs.Feeding.{rest_stands, replayed, stands}
use Rattle.replay_laws.proofs.Feeds.{replay_stands}
use Rattle.beamtassel.specs.Calls.{has_round}

journal_passes : (bs : List ℕ) → T (journal.stands (replayed bs).journal)
unfolding stands
journal_passes bs = left_of (journal.stands (replayed bs).journal) (rest_stands (replayed bs).rest) (replay_stands bs)

shaped_by : (j : Journal) (t : Turn) → T (has_round t) → T (stands_by t j) → T (shaped j.round)
shaped_by j Votes h s = left_of (shaped j.round) (unset j.round.history.prevoted && unset j.round.history.precommitted) s
shaped_by j Blocks h s = absurd h
shaped_by j Voters h s = absurd h

pub round_passes : (bs : List ℕ) → has_round (replayed bs).journal.turn ≡ true → shaped (replayed bs).journal.round ≡ true
unfolding journal.stands
round_passes bs h =
    true_T (shaped (replayed bs).journal.round) (shaped_by (replayed bs).journal (replayed bs).journal.turn (T_true h) (journal_passes bs))
