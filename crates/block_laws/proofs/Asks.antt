-- What asking a table tells.
use mathlib.Core.Bool.{Bool, true, false, cond, ◌&&◌}
use mathlib.Core.Path.{◌≡◌, refl}
use Prim.Native.Nat.{ℕ, ◌≤◌, ◌<◌}
use native.Mathlib.Omega.{arith}
use lib.Dec.{T, leb, ltb, ltb→lt, leb→le}
use lib.ListN.{get_or}
use borrow.Author.Tests.{lt-ltb, le-leb}
use Rattle.loops.proofs.Tests.{T_true, true_T}
use Rattle.grandpa.specs.Tree.{below}
use Rattle.grandpa.proofs.Trees.{below_le, number_root, number_below}
use Rattle.blocks.specs.declared.BlockTable.{BlockTable}
use Rattle.blocks.specs.Table.{up, blocks, climbed, Stands, Absent}
use Rattle.blocks.specs.Add.{place_of}
use Rattle.block_shape.specs.Shape.{tabled}
use Rattle.block_table.specs.Ask.{find, ancestor_at, is_at_or_below}
use Rattle.block_shape.proofs.Shapes.{tabled_shaped}
use Rattle.block_laws.proofs.Adds.{found_stands, stands_found, stands_nothing}
use Rattle.blocks.proofs.Climbs.{climbed_meets, climbed_below, climbed_number}
use Rattle.std.specs.Prelude.{Option, Some, None, Result, Ok}
use Rattle.refusals.specs.declared.Refusal.{Refusal}

module _ (t : BlockTable) (h : T (tabled t)) where
  -- the block of an id is found, and no other
  pub finds : (id k : ℕ) → Stands t id k → find t id ≡ Ok (Some k)
  unfolding find
  finds id k p = rw (true_T (tabled t) h, stands_found t (tabled_shaped t h) id k p)

  pub finds_nothing : (id : ℕ) → Absent t id → find t id ≡ Ok None
  unfolding find
  finds_nothing id f = rw (true_T (tabled t) h, stands_nothing t (tabled_shaped t h) id f)

  pub found : (id k : ℕ) → find t id ≡ Ok (Some k) → Stands t id k
  unfolding find
  found id k e = go (place_of t.ids t.count id) refl (rw (true_T (tabled t) h) at e)
    where
      go : (p : Option ℕ) → place_of t.ids t.count id ≡ p → ◌≡◌ {A = Result (Option ℕ) Refusal} (Ok p) (Ok (Some k)) → Stands t id k
      go (Some j) q r =
          let j_is : j ≡ k = cc in
          found_stands t (tabled_shaped t h) id k (rw j_is at q)
      go None q r = absurd (let z : ◌≡◌ {A = ℕ} 0 1 = cc in omega arith)

  -- the ancestor at a number is the block above with that number, and every such block is it
  pub ancestor_is : (a b wanted : ℕ) → b < t.count → T (below (up t.parents) a b) → get_or t.numbers a 0 ≡ wanted
      → ancestor_at t b wanted ≡ Ok (Some a)
  unfolding ancestor_at
  ancestor_is a b wanted l s e =
      let w = tabled_shaped t h in
      let root : get_or t.numbers 0 0 ≤ wanted = omega (arith, e, number_root (blocks t) w.tree a (omega (arith, below_le (up t.parents) w.tree.falls a b s))) in
      let low : wanted ≤ get_or t.numbers b 0 = omega (arith, e, number_below (blocks t) w.tree a b s l) in
      rw (
        true_T (tabled t) h,
        lt-ltb b t.count l,
        le-leb (get_or t.numbers 0 0) wanted root,
        le-leb wanted (get_or t.numbers b 0) low,
        ← e,
        climbed_meets t.parents t.numbers t.count w.tree a b l s,
      )

  pub ancestor_told : (a b wanted : ℕ) → ancestor_at t b wanted ≡ Ok (Some a)
      → (b < t.count) × T (below (up t.parents) a b) × (get_or t.numbers a 0 ≡ wanted)
  unfolding ancestor_at
  ancestor_told a b wanted e =
      go (ltb b t.count) (leb (get_or t.numbers 0 0) wanted) (leb wanted (get_or t.numbers b 0)) refl refl refl
      (rw (true_T (tabled t) h) at e)
    where
      go : (x y z : Bool) → ltb b t.count ≡ x → leb (get_or t.numbers 0 0) wanted ≡ y → leb wanted (get_or t.numbers b 0) ≡ z
          → ◌≡◌ {A = Result (Option ℕ) Refusal} (Ok (cond (x && (y && z)) (Some (climbed t.parents t.numbers b wanted)) None)) (Ok (Some a))
          → (b < t.count) × T (below (up t.parents) a b) × (get_or t.numbers a 0 ≡ wanted)
      go true true true p q r s =
          let w = tabled_shaped t h in
          let l = ltb→lt b t.count (T_true p) in
          let a_is : climbed t.parents t.numbers b wanted ≡ a = cc in (
            l,
            rw a_is at (climbed_below t.parents t.numbers t.count w.tree b wanted),
            rw a_is at (climbed_number t.parents t.numbers t.count w.tree b wanted l (leb→le _ _ (T_true q)) (leb→le _ _ (T_true r))),
          )
      go true true false p q r s = absurd (let z : ◌≡◌ {A = ℕ} 0 1 = cc in omega arith)
      go true false z p q r s = absurd (let z : ◌≡◌ {A = ℕ} 0 1 = cc in omega arith)
      go false y z p q r s = absurd (let z : ◌≡◌ {A = ℕ} 0 1 = cc in omega arith)

  -- at or below, of two blocks of the table
  pub lies_below : (a b : ℕ) → a < t.count → b < t.count → T (below (up t.parents) a b) → is_at_or_below t a b ≡ Ok true
  unfolding is_at_or_below
  lies_below a b k l s = rw (true_T (tabled t) h, lt-ltb a t.count k, lt-ltb b t.count l, true_T (below (up t.parents) a b) s)

  pub told_below : (a b : ℕ) → is_at_or_below t a b ≡ Ok true → (a < t.count) × (b < t.count) × T (below (up t.parents) a b)
  unfolding is_at_or_below
  told_below a b e =
      go (ltb a t.count) (ltb b t.count) (below (up t.parents) a b) refl refl refl (rw (true_T (tabled t) h) at e)
    where
      go : (x y z : Bool) → ltb a t.count ≡ x → ltb b t.count ≡ y → below (up t.parents) a b ≡ z
          → ◌≡◌ {A = Result Bool Refusal} (Ok (x && (y && z))) (Ok true) → (a < t.count) × (b < t.count) × T (below (up t.parents) a b)
      go true true true p q r s = (ltb→lt a t.count (T_true p), ltb→lt b t.count (T_true q), T_true r)
      go true true false p q r s = absurd (let z : ◌≡◌ {A = ℕ} 0 1 = cc in omega arith)
      go true false z p q r s = absurd (let z : ◌≡◌ {A = ℕ} 0 1 = cc in omega arith)
      go false y z p q r s = absurd (let z : ◌≡◌ {A = ℕ} 0 1 = cc in omega arith)
