-- Document 01, "Judging a promise": rounds that would look right, and what turns them down.
use Rattle.std.specs.Prelude.{◌≡◌, ℕ, None, Result, Ok}
use Rattle.context.specs.declared.Phase.{Phase}
use Rattle.context.specs.declared.Phase.TheVariants.{Prevote}
use Rattle.tracker.specs.declared.Pair.{Pair}
use Rattle.judging.specs.declared.ImportResult.{ImportResult}
use Rattle.judging.specs.declared.ImportResult.TheVariants as vote
use Rattle.round.specs.declared.Round.{Round}
use Rattle.round_laws.specs.Later.{Reached}
use Rattle.demands.specs.First.{Rule, Promised}
use Rattle.demands.specs.Second.{Tells, IsGhost, IsFinalized, IsEstimate}
use Rattle.refusals.specs.declared.Refusal.{Refusal}

-- a reached round with so many votes, for whose next vote rule 2 holds
pub record DueAfter (votes : ℕ) : Type 0 where
  pub round : Round
  pub reached : Reached round
  pub so_many : round.history.count ≡ votes
  pub signer : ℕ
  pub pair : Pair
  pub due : Rule round Prevote signer pair (Ok vote.Counted)

pub record Wrong : Type 0 where
  -- the round that refuses every vote, that imports nothing, that takes the first vote and then only nods: where rule 2 holds, it
  -- leaves the round equal, whatever it answers
  pub idle : (r : Round) (phase : Phase) (signer : ℕ) (p : Pair) → Rule r phase signer p (Ok vote.Counted) → (a : Result ImportResult Refusal)
      → Promised r phase signer p (record { answer = a; round = r }) → ⊥
  pub first_vote : DueAfter 0
  pub next_vote : DueAfter 1
  -- the one that always answers none
  pub no_ghost : (r : Round) (g : ℕ) → IsGhost r g → Tells r (Ok None) (IsGhost r) → ⊥
  pub no_finalized : (r : Round) (b : ℕ) → IsFinalized r b → Tells r (Ok None) (IsFinalized r) → ⊥
  pub no_estimate : (r : Round) (b : ℕ) → IsEstimate r b → Tells r (Ok None) (IsEstimate r) → ⊥
  pub told_round : Round
  pub told_reached : Reached told_round
  pub told_blocks : (g : ℕ) × (f : ℕ) × (e : ℕ) × IsGhost told_round g × IsFinalized told_round f × IsEstimate told_round e
