-- Every call on a round that keeps the shape gives a round that keeps it.
use mathlib.Core.Bool.{Bool, true, false, cond}
use mathlib.Core.Path.{◌≡◌, refl, sym, ap, subst}
use Prim.Native.Nat.{ℕ, ◌≤◌}
use native.Mathlib.Omega.{arith}
use lib.Dec.{T, leb}
use borrow.Author.Tests.{le-leb}
use Rattle.sizes.specs.Sizes.{HISTORY}
use Rattle.loops.proofs.Tests.{T_true}
use Rattle.weights.specs.Weights.{most}
use Rattle.voter_set.specs.declared.VoterSet.{VoterSet}
use Rattle.voter_set.specs.Good.{good}
use Rattle.voter_laws.proofs.Goods.{good_means}
use Rattle.blocks.specs.declared.BlockTable.{BlockTable}
use Rattle.blocks.specs.Table.{Stands}
use Rattle.blocks.specs.Add.{place_of, on_place, step}
use Rattle.block_shape.specs.Shape.{tabled}
use Rattle.block_shape.proofs.Shapes.{tabled_shaped}
use Rattle.block_laws.proofs.Adds.{found_stands}
use Rattle.context.specs.declared.Phase.{Phase}
use Rattle.context.specs.declared.Phase.TheVariants.{Prevote, Precommit}
use Rattle.vote_graph.proofs.Shapes.{columns_of}
use Rattle.tracker.specs.declared.Pair.{Pair}
use Rattle.importing.specs.Import.{framed, Held, with_graph, import, opened_held}
use Rattle.held_laws.specs.Kept.{Kept}
use Rattle.held_laws.specs.Reached.{Opens}
use Rattle.held_laws.proofs.Opens.{opened_kept}
use Rattle.held_laws.proofs.Keeps.{import_keeps}
use Rattle.held_laws.proofs.Adds.{adding_keeps, sought_keeps}
use Rattle.round.specs.declared.Round.{Round}
use Rattle.round.specs.Shape.{frame, held, shaped}
use Rattle.round.specs.Calls.{opened, not_opened, new, with_table, add_block, with_held, imported, import_vote, sought, with_sought, precommit_ghost, marked, with_history, set_index}
use Rattle.round_laws.specs.Fits.{Fits}
use Rattle.round_laws.proofs.Shaped.{shaped_kept, shaped_marked, kept_shaped}
use Rattle.std.specs.Prelude.{Option, Some, None, Ok, Result, ⊤}
use Rattle.refusals.specs.declared.Refusal.{Refusal}
use Rattle.refusals.specs.declared.Refusal.TheVariants.{Misshapen, UnknownBase}
use Rattle.round.specs.declared.After.{After}
use Rattle.judging.specs.declared.ImportResult.{ImportResult}

-- where the test passes
pub on_true : {A : Type 0} (P : A → Type 0) (b : Bool) (x y : A) → T b → P x → P (cond b x y)
on_true P true x y t p = p
on_true P false x y t p = absurd t

-- what is held is put into a round and read again
pub held_again : (r : Round) (h : Held) → held (with_held r h) ≡ h
held_again r h = ap (with_graph h) (columns_of r.graph.base h.graph)

-- a round is opened
module _ (number : ℕ) (voters : VoterSet) (table : BlockTable) where
  pub opened_again : (b : ℕ) → held (opened number voters table b) ≡ opened_held b
  unfolding opened
  opened_again b = ap (with_graph (opened_held b)) (columns_of b (opened_held b).graph)

  pub opened_shaped : (b : ℕ) → Opens (framed number voters table b) → T (shaped (opened number voters table b))
  unfolding opened
  opened_shaped b o =
      kept_shaped (opened number voters table b)
      (subst (Kept (framed number voters table b)) (sym (opened_again b)) (opened_kept (framed number voters table b) o))
      (record { prevoted = tt; precommitted = tt })

  module _ (base : ℕ) where
    abbrev outcome : Bool → Bool → Option ℕ → (After (Result ⊤ Refusal))
    outcome a b p =
        cond a (cond b (on_place p (λ k. record { answer = Ok tt; round = opened number voters table k }) (not_opened UnknownBase)) (not_opened Misshapen)) (not_opened Misshapen)

    abbrev Made : After (Result ⊤ Refusal) → Type 0
    Made x = (k : ℕ) × (good voters ≡ true) × T (tabled table) × Stands table base k × (x.round ≡ opened number voters table k)

    -- a round that `new` answers with is opened at its base, on voters and a table that keep their shape
    pub new_opened : (new number voters table base).answer ≡ Ok tt → Made (new number voters table base)
    unfolding new
    new_opened = go (good voters) refl (tabled table) refl (place_of table.ids table.count base) refl
      where
        go : (a : Bool) → good voters ≡ a → (b : Bool) → tabled table ≡ b → (p : Option ℕ) → place_of table.ids table.count base ≡ p
            → (outcome a b p).answer ≡ Ok tt → Made (outcome a b p)
        go true s true t (Some k) e q = (k, s, T_true t, found_stands table (tabled_shaped table (T_true t)) base k e, refl)
        go true s true t None e q = absurd (let z : ◌≡◌ {A = ℕ} 0 1 = cc in omega arith)
        go true s false t p e q = absurd (let z : ◌≡◌ {A = ℕ} 0 1 = cc in omega arith)
        go false s b t p e q = absurd (let z : ◌≡◌ {A = ℕ} 0 1 = cc in omega arith)

    module _ (fits : voters.total ≤ most) (answered : (new number voters table base).answer ≡ Ok tt) where
      pub new_opens : Opens (framed number voters table (new_opened answered).0)
      new_opens =
          let m = new_opened answered in
          record { good = good_means voters m.1; fits = fits; table = tabled_shaped table m.2; in_table = m.3.inside }

      pub new_shaped : T (shaped (new number voters table base).round)
      new_shaped =
          let m = new_opened answered in
          subst (λ (r : Round). T (shaped r)) (sym m.4) (opened_shaped m.0 new_opens)

module _ (r : Round) (fits : Fits r) (t : T (shaped r)) where
  kept : Kept (frame r) (held r)
  kept = shaped_kept r fits t

  -- a vote
  pub import_shaped : (phase : Phase) (signer : ℕ) (p : Pair) → T (shaped (import_vote phase signer p r).round)
  unfolding import_vote imported
  import_shaped phase signer p =
      let next = (import (frame r) phase signer p (held r)).held in
      on_true (λ (x : After (Result ImportResult Refusal)). T (shaped x.round)) (shaped r) (imported phase signer p r) _ t
      (kept_shaped (with_held r next) (subst (Kept (frame r)) (sym (held_again r next)) (import_keeps (frame r) (held r) kept phase signer p))
      (record { prevoted = (shaped_marked r t).prevoted; precommitted = (shaped_marked r t).precommitted }))

  -- a block more
  pub add_shaped : (id parent : ℕ) → T (shaped (add_block id parent r).round)
  unfolding add_block
  add_shaped id parent =
      on_true (λ (x : After (Result ℕ Refusal)). T (shaped x.round)) (shaped r) _ _ t
      (kept_shaped (with_table r (step r.table id parent).table) (adding_keeps (frame r) (held r) kept id parent)
      (record { prevoted = (shaped_marked r t).prevoted; precommitted = (shaped_marked r t).precommitted }))

  -- the precommit-GHOST is asked for
  pub ghost_shaped : T (shaped (precommit_ghost r).round)
  unfolding precommit_ghost sought
  ghost_shaped =
      on_true (λ (x : After (Result (Option (ℕ × ℕ)) Refusal)). T (shaped x.round)) (shaped r) _ _ t
      (kept_shaped (with_sought r (sought r)).round (sought_keeps (frame r) (held r) kept)
      (record { prevoted = (shaped_marked r t).prevoted; precommitted = (shaped_marked r t).precommitted }))

  -- an index is set
  pub index_shaped : (phase : Phase) → T (shaped (set_index phase r).round)
  unfolding set_index
  index_shaped phase =
      on_true (λ (x : After (Result ⊤ Refusal)). T (shaped x.round)) (shaped r) _ _ t (go phase)
    where
      few : T (leb r.history.count HISTORY)
      few = T_true (le-leb _ HISTORY kept.recorded.history.fits)

      go : (phase : Phase) → T (shaped (with_history r (marked phase r.history)))
      go Prevote =
          kept_shaped (with_history r (marked Prevote r.history)) kept (record { prevoted = few; precommitted = (shaped_marked r t).precommitted })
      go Precommit =
          kept_shaped (with_history r (marked Precommit r.history)) kept (record { prevoted = (shaped_marked r t).prevoted; precommitted = few })
