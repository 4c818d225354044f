-- Document 02, R-3: for two rounds that 16 doesn't refuse, if each has a finalized block and neither block is the other or its ancestor,
-- the two-view sum exceeds the fault weight. For every pair of states reached by calls, with no premise on equivocators.
-- `FinalsApart` is the sentence up to its last clause, over what the calls tell, and `Makers` the last clause.
use Rattle.std.specs.Prelude.{◌≡◌, ℕ, ◌<◌, Some, Ok}
use Rattle.grandpa.specs.Weight.{fault}
use Rattle.round.specs.declared.Round.{Round}
use Rattle.round.specs.Ask as ask
use Rattle.round_laws.specs.Later.{Reached}
use Rattle.two_views.specs.Views.{views}
use Rattle.demands.specs.Third.{Below}

pub record FinalsApart (a b : Round) : Type 0 where
  -- states reached by calls
  pub reached : Reached a
  pub reached_other : Reached b
  -- that 16 doesn't refuse: the call tells the two-view sum
  pub sum : ℕ
  pub sums : views a b ≡ Ok sum
  -- each has a finalized block
  pub id : ℕ
  pub number : ℕ
  pub final : ask.finalized a ≡ Ok (Some (id, number))
  pub id_other : ℕ
  pub number_other : ℕ
  pub final_other : ask.finalized b ≡ Ok (Some (id_other, number_other))
  -- neither block is the other or its ancestor
  pub not_below : Below a.table (ask.finalized a) (ask.finalized b) → ⊥
  pub not_above : Below a.table (ask.finalized b) (ask.finalized a) → ⊥

-- the two-view sum exceeds the fault weight
abbrev pub Makers : Type 0
Makers = (a b : Round) (apart : FinalsApart a b) → fault a.context.voters.total < apart.sum
