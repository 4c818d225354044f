-- A block that is added, and the precommit-GHOST when it is asked for, keep the shape of a round.
use mathlib.Core.Path.{◌≡◌, refl, sym, subst}
use Prim.Native.Nat.{ℕ, ◌<◌}
use native.Mathlib.Omega.{arith}
use lib.Dec.{T}
use Rattle.grandpa.specs.Time.{Grown}
use Rattle.grandpa.proofs.Trees.{below_same}
use Rattle.blocks.specs.declared.BlockTable.{BlockTable}
use Rattle.blocks.specs.Table.{blocks}
use Rattle.blocks.specs.Add.{step}
use Rattle.block_shape.specs.Shape.{Shaped}
use Rattle.block_laws.proofs.Adds.{step_keeps, step_grows, step_stands}
use Rattle.context.specs.declared.Phase.TheVariants.{Precommit}
use Rattle.nodes.specs.Nodes.{col}
use Rattle.answer_laws.specs.Seats.{Seated}
use Rattle.answer_laws.proofs.Kept.{phase_seated}
use Rattle.answer_laws.proofs.Extended.{sound_more, extended_faithful}
use Rattle.importing.specs.Import.{Frame, with_table, Held, scene}
use Rattle.held_laws.specs.Kept.{setting, Kept}
use Rattle.held_laws.specs.Reached.{sought}
use Rattle.held_laws.proofs.Parts.{kept_faithful, faithful_kept}
use Rattle.std.specs.Prelude.{Option, Some, None}

module _ (f : Frame) (h : Held) (k : Kept f h) where
  -- a table that has the blocks there were, at their places
  module _ (t : BlockTable) (shaped : Shaped t) (grown : Grown (blocks f.table) (blocks t))
      (same_ids : (x : ℕ) → x < f.table.count → col f.table.ids x ≡ col t.ids x) where
    seat_more : (o : Option ℕ) → Seated f.table.parents f.base f.table.count o → Seated t.parents f.base t.count o
    seat_more None s = tt
    seat_more (Some b) s = (
      omega (arith, s.0, grown.more),
      subst T (below_same f.table.count (col f.table.parents) (col t.parents) k.table.tree.falls grown.same_up f.base b s.0) s.1,
    )

    pub table_keeps : Kept (with_table f t) h
    table_keeps =
        faithful_kept (with_table f t) h
        (extended_faithful (setting f h) (kept_faithful f h k) t.parents t.ids t.numbers t.count shaped.tree shaped.few grown same_ids) shaped
        (sound_more f.table.parents f.table.ids t.parents t.ids f.base f.table.count t.count grown.more shaped.few grown.same_up same_ids
        shaped.tree.falls h.graph k.sound)
        k.clear k.wide k.recorded.tidy k.recorded.history
        (record {
          prevote = seat_more h.answers.prevote k.seated.prevote;
          precommit = seat_more h.answers.precommit k.seated.precommit;
          finalized = seat_more h.answers.finalized k.seated.finalized;
          estimate = seat_more h.answers.estimate k.seated.estimate;
        })

  module _ (id parent : ℕ) where
    pub step_grown : Grown (blocks f.table) (blocks (step f.table id parent).table)
    step_grown = step_grows f.table k.table id parent

    pub step_ids : (x : ℕ) → x < f.table.count → col f.table.ids x ≡ col (step f.table id parent).table.ids x
    step_ids x l = sym (step_stands f.table k.table id parent (col f.table.ids x) x (record { inside = l; named = refl })).named

    pub adding_keeps : Kept (with_table f (step f.table id parent).table) h
    adding_keeps = table_keeps (step f.table id parent).table (step_keeps f.table k.table id parent) step_grown step_ids

  pub sought_keeps : Kept f (sought f h)
  sought_keeps =
      faithful_kept f (sought f h) (kept_faithful f h k) k.table k.sound k.clear k.wide k.recorded.tidy k.recorded.history
      (record {
        prevote = k.seated.prevote;
        precommit =
            phase_seated (scene f h) f.table.ids f.table.count (setting f h).cast k.table.tree.falls (kept_faithful f h k).shape k.table.few Precommit
            h.heard.precommit h.answers.precommit k.seated.precommit;
        finalized = k.seated.finalized;
        estimate = k.seated.estimate;
      })
