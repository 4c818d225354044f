-- Document 02, R-3, over bytes: two journals that `beamtassel_two_views` doesn't refuse, each with a final block, neither of which is the
-- other or its ancestor. Then the eight bytes tell more than the fault weight. `summed` is what `beamtassel_replay` reports of a journal.
use Rattle.std.specs.Prelude.{List, ◌≡◌, ℕ, ◌<◌, take, Some, Ok}
use Rattle.grandpa.specs.Weight.{fault}
use Rattle.records.specs.Bytes.{number_of}
use Rattle.feeding.specs.Feeding.{replayed}
use Rattle.replay_laws.specs.Rounds.{round_in}
use Rattle.summary.specs.Summary.{summed}
use Rattle.demands.specs.Third.{Below}
use Rattle.beamtassel.specs.Calls.{two_views_call}

pub record FinalsApart (first second out : List ℕ) : Type 0 where
  -- results from 2^32 on are refusals
  pub answered : (two_views_call first second out).number < 4294967296
  -- each has a final block
  pub id : ℕ
  pub number : ℕ
  pub final : (summed (replayed first)).finalized ≡ Some (id, number)
  pub id_other : ℕ
  pub number_other : ℕ
  pub final_other : (summed (replayed second)).finalized ≡ Some (id_other, number_other)
  -- neither is the other or its ancestor
  pub not_below : Below (round_in first).table (Ok (summed (replayed first)).finalized) (Ok (summed (replayed second)).finalized) → ⊥
  pub not_above : Below (round_in first).table (Ok (summed (replayed second)).finalized) (Ok (summed (replayed first)).finalized) → ⊥

abbrev pub Makers : Type 0
Makers = (first second out : List ℕ) → FinalsApart first second out
    → fault (summed (replayed first)).total < number_of (take 8 (two_views_call first second out).out)
