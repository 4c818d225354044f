-- A refusal hands the round back equal, and every call refuses a round that breaks the shape with 9.
use mathlib.Core.Bool.{Bool, true, false, cond}
use mathlib.Core.List.{List}
use mathlib.Core.Path.{◌≡◌, refl, ap, ◌∙◌}
use Prim.Native.Nat.{ℕ}
use native.Mathlib.Omega.{arith}
use Rattle.loops.proofs.Tests.{T_true}
use Rattle.blocks.specs.declared.BlockTable.{BlockTable}
use Rattle.blocks.specs.Add.{step}
use Rattle.block_laws.proofs.Adds.{step_refused}
use Rattle.context.specs.declared.Phase.{Phase}
use Rattle.graph_rows.specs.declared.Row.{Row}
use Rattle.graph_rows.proofs.Copies.{rows_words}
use Rattle.tracker.specs.declared.Pair.{Pair}
use Rattle.judging.specs.declared.ImportResult.TheVariants as result
use Rattle.importing.specs.Import.{Held}
use Rattle.held_laws.specs.Kept.{Untaken}
use Rattle.held_laws.proofs.Keeps.{import_refused}
use Rattle.round.specs.declared.Round.{Round}
use Rattle.round.specs.Shape.{frame, held, shaped}
use Rattle.round.specs.Calls.{made, with_table, grown, add_block, with_held, imported, import_vote, sought, with_sought, precommit_ghost, set_index}
use Rattle.round.proofs.Steps.{graph_kept}
use Rattle.std.specs.Prelude.{Option, Some, None, Err, Result, ⊤}
use Rattle.refusals.specs.declared.Refusal.TheVariants.{Misshapen}
use Rattle.refusals.specs.declared.Refusal.{Refusal}
use Rattle.round.specs.declared.After.{After}
use Rattle.judging.specs.declared.ImportResult.{ImportResult}

-- either way of a test
pub on_test : {A : Type 0} (P : A → Type 0) (b : Bool) (x y : A) → (b ≡ true → P x) → (b ≡ false → P y) → P (cond b x y)
on_test P true x y f g = f refl
on_test P false x y f g = g refl

module _ (r : Round) where
  -- a round with what it holds is the round
  pub same_held : with_held r (held r) ≡ r
  same_held = ap (λ (rows : List Row). made (frame r) (held r) rows r.history.prevoted r.history.precommitted) (rows_words r.graph.rows)

  -- a vote that is not taken: of a stranger, refused, a duplicate, a third
  pub import_equal : (phase : Phase) (signer : ℕ) (p : Pair) → Untaken (import_vote phase signer p r).answer → (import_vote phase signer p r).round ≡ r
  unfolding import_vote imported
  import_equal phase signer p =
      on_test (λ (x : After (Result ImportResult Refusal)). Untaken x.answer → x.round ≡ r) (shaped r) (imported phase signer p r) _
      (λ e u. ap (λ (h : Held). with_held r h) (import_refused (frame r) phase signer p (held r) u) ∙ same_held) (λ e u. refl)

  -- a block that is refused
  pub add_equal : (id parent : ℕ) (n : Refusal) → (add_block id parent r).answer ≡ Err n → (add_block id parent r).round ≡ r
  unfolding add_block
  add_equal id parent n =
      on_test (λ (x : After (Result ℕ Refusal)). x.answer ≡ Err n → x.round ≡ r) (shaped r) (grown r (step r.table id parent)) _
      (λ e q. ap (λ (t : BlockTable). with_table r t) (step_refused r.table (graph_kept r (T_true e)).table id parent n q)) (λ e q. refl)

  pub ghost_equal : (n : Refusal) → (precommit_ghost r).answer ≡ Err n → (precommit_ghost r).round ≡ r
  unfolding precommit_ghost
  ghost_equal n =
      on_test (λ (x : After (Result (Option (ℕ × ℕ)) Refusal)). x.answer ≡ Err n → x.round ≡ r) (shaped r) (with_sought r (sought r)) _ (λ e. go (sought r)) (λ e q. refl)
    where
      go : (o : Option ℕ) → (with_sought r o).answer ≡ Err n → (with_sought r o).round ≡ r
      go (Some b) q = absurd (let z : ◌≡◌ {A = ℕ} 0 1 = cc in omega arith)
      go None q = absurd (let z : ◌≡◌ {A = ℕ} 0 1 = cc in omega arith)

  pub index_equal : (phase : Phase) (n : Refusal) → (set_index phase r).answer ≡ Err n → (set_index phase r).round ≡ r
  unfolding set_index
  index_equal phase n =
      on_test (λ (x : After (Result ⊤ Refusal)). x.answer ≡ Err n → x.round ≡ r) (shaped r) _ _
      (λ e q. absurd (let z : ◌≡◌ {A = ℕ} 0 1 = cc in omega arith)) (λ e q. refl)

  -- 9, and the same round
  module _ (breaks : shaped r ≡ false) where
    pub import_nine : (phase : Phase) (signer : ℕ) (p : Pair) → import_vote phase signer p r ≡ record { answer = Err Misshapen; round = r }
    unfolding import_vote
    import_nine phase signer p = rw breaks

    pub add_nine : (id parent : ℕ) → add_block id parent r ≡ record { answer = Err Misshapen; round = r }
    unfolding add_block
    add_nine id parent = rw breaks

    pub ghost_nine : precommit_ghost r ≡ record { answer = Err Misshapen; round = r }
    unfolding precommit_ghost
    ghost_nine = rw breaks

    pub index_nine : (phase : Phase) → set_index phase r ≡ record { answer = Err Misshapen; round = r }
    unfolding set_index
    index_nine phase = rw breaks
