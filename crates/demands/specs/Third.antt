-- Demand 3: nothing told is taken back. Over any calls on one opened round a later GHOST or finalized block is the earlier one or a
-- descendant. While precommit equivocators weigh at most the fault weight at the later call, a completable round stays so and its estimate
-- stays or moves towards the base. An estimate always lies at or below the finalized block.
-- `Third` holds of every reached round and every later one, with blocks added between, and speaks of what the calls tell: at most F these
-- are the definitions (`Second`), above it the written step. `Beyond` says why it stands there.
use Rattle.std.specs.Prelude.{◌≡◌, ◌⊎◌, ℕ, T, Option, Some, None, Result, Ok, true, false}
use Rattle.grandpa.specs.Tree.{below}
use Rattle.grandpa.specs.Time as time
use Rattle.blocks.specs.declared.BlockTable.{BlockTable}
use Rattle.blocks.specs.Table.{Stands}
use Rattle.context.specs.declared.Phase.TheVariants.{Prevote, Precommit}
use Rattle.nodes.specs.Nodes.{col}
use Rattle.round.specs.declared.Round.{Round}
use Rattle.round.specs.Ask as ask
use Rattle.round_laws.specs.Later.{Later, Reached}
use Rattle.demands.specs.Second.{Weighs, Few, ghost_told, meant}
use Rattle.refusals.specs.declared.Refusal.{Refusal}

-- two blocks were told, and in this table the second is the first or its descendant
pub record Below (t : BlockTable) (upper lower : Result (Option (ℕ × ℕ)) Refusal) : Type 0 where
  pub id : ℕ
  pub number : ℕ
  pub is_upper : upper ≡ Ok (Some (id, number))
  pub id_below : ℕ
  pub number_below : ℕ
  pub is_lower : lower ≡ Ok (Some (id_below, number_below))
  pub place : ℕ
  pub place_below : ℕ
  pub stands : Stands t id place
  pub stands_below : Stands t id_below place_below
  pub under : T (below (col t.parents) place place_below)

-- nothing was told yet, or what is told now is the same block or a descendant
abbrev pub Stays : BlockTable → Result (Option (ℕ × ℕ)) Refusal → Result (Option (ℕ × ℕ)) Refusal → Type 0
Stays t earlier later = (earlier ≡ Ok None) ⊎ Below t earlier later

-- r, and s that calls made of it
pub record Third (r s : Round) : Type 0 where
  pub ghost : Stays s.table (ghost_told (ask.state r)) (ghost_told (ask.state s))
  pub finalized : Stays s.table (ask.finalized r) (ask.finalized s)
  pub completable : Few Precommit s → ask.completable r ≡ Ok true → ask.completable s ≡ Ok true
  pub estimate : Few Precommit s → ask.completable r ≡ Ok true → Below s.table (ask.estimate s) (ask.estimate r)
  pub ordered : Stays s.table (ask.finalized s) (ask.estimate s)
  -- the same over the definitions of demand 2
  pub definitions : Weighs r → Few Prevote s → time.Kept (col s.table.parents) (Few Precommit s) (meant r) (meant s)
  -- blocks keep their ids, numbers and parents
  pub blocks : (id b : ℕ) → Stands r.table id b
      → Stands s.table id b × (col s.table.numbers b ≡ col r.table.numbers b) × (col s.table.parents b ≡ col r.table.parents b)

abbrev pub Demand3 : Type 0
Demand3 = (r : Round) → Reached r → (s : Round) → Later r s → Third r s

-- the premise of the two is needed: with precommit equivocators above F a completable round may stop being so, and its estimate may move
-- away from the base
pub record Beyond : Type 0 where
  pub earlier : Round
  pub later : Round
  pub reached : Reached earlier
  pub calls : Later earlier later
  pub above : Few Precommit later → ⊥
  pub was_completable : ask.completable earlier ≡ Ok true
  pub not_completable : ask.completable later ≡ Ok false
  pub was_estimate : ask.estimate earlier ≡ Ok (Some (11, 1))
  pub estimate : ask.estimate later ≡ Ok (Some (12, 2))
  pub away : Below later.table (ask.estimate earlier) (ask.estimate later)
