-- A block that is added or refused, whatever the table.
use mathlib.Core.Bool.{Bool, true, false}
use mathlib.Core.Logic.{◌≢◌}
use mathlib.Core.List.{List}
use mathlib.Core.Path.{◌≡◌, refl, ap, ◌∙◌}
use Prim.Native.Nat.{ℕ, ◌≤◌}
use native.Mathlib.Decide.{ℕ_discrete}
use native.Mathlib.Omega.{arith}
use borrow.Author.Tests.{eq-eqb, ne_eqb}
use lib.ListN.{get_or}
use Rattle.sizes.specs.Sizes.{BLOCKS}
use Rattle.columns.specs.Find.{contains}
use Rattle.blocks.specs.declared.BlockTable.{BlockTable}
use Rattle.blocks.specs.declared.Added.{Added}
use Rattle.blocks.specs.Add.{place_of, refused, placed, append, step}
use Rattle.marks.specs.declared.Mark.TheVariants.{Bk}
use Rattle.marks.specs.Marks.{word}
use Rattle.runs.specs.Tried.{Tried, taken_or_not, tried}
use Rattle.growing.specs.Growing.{added, answered, grown, turn_of}
use Rattle.std.specs.Prelude.{Option, Some, None, Result, ⊤}
use Rattle.refusals.specs.declared.Refusal.{Refusal}
use Rattle.refusals.specs.declared.Refusal.TheVariants.{KnownBlock, UnknownParent, NumberOverflow, TableFull}
use Rattle.std.specs.declared.ops.ControlFlow.{ControlFlow}
use Rattle.marks.specs.declared.End.{End}

module _ (t : BlockTable) (id parent : ℕ) (P : Added → Type 0) (no_block : (n : Refusal) → P (refused t n))
    (one_more : (above : ℕ) → t.count ≢ BLOCKS → P (placed t id above)) where
  pub by_step : P (step t id parent)
  unfolding step append
  by_step = ids (contains t.ids t.count id) refl
    where
      counts : contains t.ids t.count id ≡ false → (k : ℕ) → place_of t.ids t.count parent ≡ Some k
          → get_or t.numbers k 0 ≢ 4294967295 → Dec (t.count ≡ BLOCKS) → P (step t id parent)
      counts e k p n (yes q) = rw (e, p, ne_eqb _ _ n, eq-eqb _ _ q) (no_block TableFull)
      counts e k p n (no q) = rw (e, p, ne_eqb _ _ n, ne_eqb _ _ q) (one_more k q)

      numbers : contains t.ids t.count id ≡ false → (k : ℕ) → place_of t.ids t.count parent ≡ Some k
          → Dec (get_or t.numbers k 0 ≡ 4294967295) → P (step t id parent)
      numbers e k p (yes q) = rw (e, p, eq-eqb _ _ q) (no_block NumberOverflow)
      numbers e k p (no q) = counts e k p q (ℕ_discrete t.count BLOCKS)

      parents : contains t.ids t.count id ≡ false → (p : Option ℕ) → place_of t.ids t.count parent ≡ p → P (step t id parent)
      parents e (Some k) p = numbers e k p (ℕ_discrete (get_or t.numbers k 0) 4294967295)
      parents e None p = rw (e, p) (no_block UnknownParent)

      ids : (b : Bool) → contains t.ids t.count id ≡ b → P (step t id parent)
      ids true e = rw e (no_block KnownBlock)
      ids false e = parents e (place_of t.ids t.count parent) refl

-- what adding leaves, and whether the loop goes on
abbrev pub left_by : Added → Tried BlockTable
left_by a = record { state = a.table; turn = turn_of a.answer }

pub added_tried : (t : BlockTable) (fs : List ℕ) → left_by (added t fs) ≡ tried grown t Bk fs
unfolding added tried grown
added_tried t fs =
    by_step t (word fs 0) (word fs 4) (λ (a : Added). left_by a ≡ taken_or_not t (answered a.table a.answer)) (λ n. refl) (λ k h. refl)

pub added_few : (t : BlockTable) (fs : List ℕ) → t.count ≤ BLOCKS → (added t fs).table.count ≤ BLOCKS
unfolding added
added_few t fs h = by_step t (word fs 0) (word fs 4) (λ (a : Added). a.table.count ≤ BLOCKS) (λ n. h) (λ k n. omega arith)

-- what the code makes of an answer, as one record tried on the table
pub add_done : (t : BlockTable) → t.count ≤ BLOCKS → (fs : List ℕ) (id parent : ℕ) → id ≡ word fs 0 → parent ≡ word fs 4
    → (a : Result ℕ Refusal) (u : BlockTable) → record { answer = a; table = u } ≡ step t id parent → (x : ControlFlow End ⊤) → x ≡ turn_of a → (n : ℕ) → n ≡ u.count
    → (record { state = record { ids = u.ids; numbers = u.numbers; parents = u.parents; count = n }; turn = x } ≡ tried grown t Bk fs) × (n ≤ BLOCKS)
unfolding added
add_done t h fs id parent i p a u e x v n w =
    let whole : record { answer = a; table = u } ≡ added t fs = e ∙ ap (λ k. step t k parent) i ∙ ap (step t (word fs 0)) p in (
      ap (λ k. record { state = record { ids = u.ids; numbers = u.numbers; parents = u.parents; count = k }; turn = x }) w
          ∙ ap (λ y. record { state = u; turn = y }) v
          ∙ ap left_by whole
          ∙ added_tried t fs,
      omega (arith, w, ap (λ (r : Added). r.table.count) whole, added_few t fs h),
    )
