-- What slots tell of an id, how they are set, and how a placed block keeps them.
use mathlib.Core.Bool.{true, false}
use mathlib.Core.List.{List}
use mathlib.Core.Logic.{◌≢◌}
use mathlib.Core.Path.{◌≡◌, refl, sym, ap, subst, ◌∙◌}
use Prim.Native.Nat.{ℕ, zero, suc, ◌+◌, ◌-◌, ◌≤◌, ◌<◌}
use native.Mathlib.Decide.{ℕ_discrete}
use native.Mathlib.Omega.{arith}
use lib.ListN.{length, get_or, set, length-set}
use lib.Seq.{get_or-set_same, get_or-set_other}
use borrow.Author.Tests.{eq-eqb, ne_eqb}
use Rattle.sizes.specs.Sizes.{BLOCKS}
use Rattle.columns.specs.Find.{find, contains}
use Rattle.columns.proofs.Finds.{find_nothing, at_find, nothing_find, contains_find, contains_nothing}
use Rattle.blocks.specs.declared.BlockTable.{BlockTable}
use Rattle.blocks.specs.declared.Added.{Added}
use Rattle.blocks.specs.Add.{place_of, append}
use Rattle.block_index.specs.Index.{slot, held, Slotted, Indexed, indexed, marked}
use Rattle.std.specs.Prelude.{Option, Some, None, Result}
use Rattle.refusals.specs.declared.Refusal.{Refusal}

pub slot_small : (id : ℕ) → slot id < 1024
unfolding slot
slot_small id = omega arith

-- what the place of an id says of its being there
module _ (ids : List ℕ) (count id : ℕ) where
  pub place_there : (k : ℕ) → place_of ids count id ≡ Some k → contains ids count id ≡ true
  unfolding place_of
  place_there k e = go (find ids count id) refl e
    where
      go : (f : Option ℕ) → find ids count id ≡ f → f ≡ Some k → contains ids count id ≡ true
      go (Some j) q r = contains_find ids count id j q
      go None q r = absurd (let z : ◌≡◌ {A = ℕ} 0 1 = cc in omega arith)

  place_absent : place_of ids count id ≡ None → find ids count id ≡ None
  unfolding place_of
  place_absent e = go (find ids count id) refl e
    where
      go : (f : Option ℕ) → find ids count id ≡ f → f ≡ None → find ids count id ≡ None
      go (Some j) q r = absurd (let z : ◌≡◌ {A = ℕ} 0 1 = cc in omega arith)
      go None q r = q

  pub place_not_there : place_of ids count id ≡ None → contains ids count id ≡ false
  place_not_there e = contains_nothing ids count id (place_absent e)

-- what the place in an id's slot tells
module _ (ids slots : List ℕ) (count : ℕ) (ix : Indexed ids slots count) (id own at : ℕ) (o : own ≡ slot id) (a : at ≡ get_or slots own 0) where
  at_held : at ≡ held slots id
  at_held = a ∙ ap (λ s. get_or slots s 0) o

  slotted : (k : ℕ) → k < count → get_or ids k 0 ≡ id → Slotted ids slots count id
  slotted k h e = subst (λ x. Slotted ids slots count x) e (ix.used k h)

  absent : ((k : ℕ) → k < count → get_or ids k 0 ≡ id → ⊥) → None ≡ place_of ids count id
  unfolding place_of
  absent f = sym ((nothing_find ids count id (λ k h. f k (omega arith))))

  -- it is not used
  pub slot_empty : count ≤ at → None ≡ place_of ids count id
  slot_empty l = absent (λ k h e. omega (arith, (slotted k h e).inside, at_held))

  -- another slot's id stands there
  pub slot_strange : (other : ℕ) → other ≡ slot (get_or ids at 0) → other ≢ own → None ≡ place_of ids count id
  slot_strange other q n =
      absent (λ k h e. n (q ∙ ap (λ p. slot (get_or ids p 0)) at_held ∙ (slotted k h e).alike ∙ sym o))

  -- the id stands there
  pub slot_own : at < count → get_or ids at 0 ≡ id → Some (get_or slots own 0) ≡ place_of ids count id
  unfolding place_of
  slot_own h e =
      ap Some (sym a)
      ∙ sym ((at_find ids count id at (omega (arith, ix.few, ix.ids_size)) e
      (λ j l q. (slotted at h e).first j (omega (arith, at_held)) (q ∙ sym e ∙ ap (λ p. get_or ids p 0) at_held))))

-- slots of the places from m on
record Since (ids slots : List ℕ) (m count id : ℕ) : Type 0 where
  inside : held slots id < count
  alike : slot (get_or ids (held slots id) 0) ≡ slot id
  first : (j : ℕ) → m ≤ j → j < held slots id → get_or ids j 0 ≢ get_or ids (held slots id) 0

module _ (ids : List ℕ) (count : ℕ) where
  -- one place more
  since_one : (slots : List ℕ) (m : ℕ) → length slots ≡ 1024 → m < count
      → ((k : ℕ) → suc m ≤ k → k < count → Since ids slots (suc m) count (get_or ids k 0))
      → (k : ℕ) → m ≤ k → k < count → Since ids (set slots (slot (get_or ids m 0)) m) m count (get_or ids k 0)
  since_one slots m size h f k l g = go (ℕ_discrete (slot (get_or ids k 0)) (slot (get_or ids m 0)))
    where
      go : Dec (slot (get_or ids k 0) ≡ slot (get_or ids m 0)) → Since ids (set slots (slot (get_or ids m 0)) m) m count (get_or ids k 0)
      go (yes q) =
          let at : get_or (set slots (slot (get_or ids m 0)) m) (slot (get_or ids k 0)) 0 ≡ m =
          ap (λ s. get_or (set slots (slot (get_or ids m 0)) m) s 0) q
          ∙ get_or-set_same slots (slot (get_or ids m 0)) m 0 (omega (arith, slot_small (get_or ids m 0))) in
          record {
            inside = omega (arith, at);
            alike = ap (λ p. slot (get_or ids p 0)) at ∙ sym q;
            first = λ j a b. absurd (omega (arith, at));
          }
      go (no q) =
          let at : get_or (set slots (slot (get_or ids m 0)) m) (slot (get_or ids k 0)) 0 ≡ held slots (get_or ids k 0) =
          get_or-set_other slots (slot (get_or ids m 0)) (slot (get_or ids k 0)) m 0 q in
          let other : k ≢ m = λ e. q (ap (λ p. slot (get_or ids p 0)) e) in
          let old = f k (omega (arith, other)) g in
          record {
            inside = omega (arith, at, old.inside);
            alike = ap (λ p. slot (get_or ids p 0)) at ∙ old.alike;
            first = λ j a b e. earlier j a (omega (arith, at)) (e ∙ ap (λ p. get_or ids p 0) at) old (ℕ_discrete j m);
          }
        where
          earlier : (j : ℕ) → m ≤ j → j < held slots (get_or ids k 0) → get_or ids j 0 ≡ get_or ids (held slots (get_or ids k 0)) 0
              → Since ids slots (suc m) count (get_or ids k 0) → Dec (j ≡ m) → ⊥
          earlier j a b e old (yes r) = q (sym old.alike ∙ ap slot (sym e) ∙ ap (λ p. slot (get_or ids p 0)) r)
          earlier j a b e old (no r) = old.first j (omega (arith, r)) b e

  since_all : (n : ℕ) (slots : List ℕ) → length slots ≡ 1024 → n ≤ count
      → ((k : ℕ) → n ≤ k → k < count → Since ids slots n count (get_or ids k 0))
      → (k : ℕ) → k < count → Since ids (indexed ids n slots) 0 count (get_or ids k 0)
  unfolding indexed
  since_all zero slots size h f k g = f k (omega arith) g
  since_all (suc n) slots size h f k g =
      since_all n (set slots (slot (get_or ids n 0)) n) (length-set slots (slot (get_or ids n 0)) n ∙ size) (omega arith)
      (since_one slots n size (omega arith) f) k g

  indexed_size : (n : ℕ) (slots : List ℕ) → length (indexed ids n slots) ≡ length slots
  unfolding indexed
  indexed_size zero slots = refl
  indexed_size (suc n) slots = indexed_size n _ ∙ length-set slots (slot (get_or ids n 0)) n

  pub index_indexed : (slots : List ℕ) → count ≤ BLOCKS → length ids ≡ BLOCKS → length slots ≡ 1024 → Indexed ids (indexed ids count slots) count
  index_indexed slots few long size =
      record {
        few = few;
        ids_size = long;
        slots_size = indexed_size count slots ∙ size;
        used = λ k h.
            let s = since_all count slots size (omega arith) (λ j a b. absurd (omega arith)) k h in
            record { inside = s.inside; alike = s.alike; first = λ j l. s.first j (omega arith) l };
      }

  -- one turn of the loop that sets them, and its end
  pub index_one : (slots : List ℕ) (left : ℕ) → 0 < left
      → indexed ids (left - 1) (set slots (slot (get_or ids (left - 1) 0)) (left - 1)) ≡ indexed ids left slots
  unfolding indexed
  index_one slots zero h = absurd (omega arith)
  index_one slots (suc n) h = let e : suc n - 1 ≡ n = omega arith in rw e

  pub index_none : (slots : List ℕ) (left : ℕ) → left ≡ 0 → indexed ids left slots ≡ slots
  unfolding indexed
  index_none slots left e = rw e

-- a block whose id was absent, at the first unused place
module _ (ids slots : List ℕ) (count id : ℕ) (room : count < BLOCKS)
    (new : place_of ids count id ≡ None) (ix : Indexed ids slots count) where
  same_id : (j : ℕ) → j < count → get_or (set ids count id) j 0 ≡ get_or ids j 0
  same_id j h = get_or-set_other ids count j id 0 (λ q. omega arith)

  last_id : get_or (set ids count id) count 0 ≡ id
  last_id = get_or-set_same ids count id 0 (omega (arith, ix.ids_size))

  pub placed_indexed : Indexed (set ids count id) (set slots (slot id) count) (count + 1)
  placed_indexed =
      record {
        few = omega arith;
        ids_size = length-set ids count id ∙ ix.ids_size;
        slots_size = length-set slots (slot id) count ∙ ix.slots_size;
        used = λ k h. go k h (ℕ_discrete (slot (get_or (set ids count id) k 0)) (slot id));
      }
    where
      go : (k : ℕ) → k < count + 1 → Dec (slot (get_or (set ids count id) k 0) ≡ slot id)
          → Slotted (set ids count id) (set slots (slot id) count) (count + 1) (get_or (set ids count id) k 0)
      go k h (yes q) =
          let at : held (set slots (slot id) count) (get_or (set ids count id) k 0) ≡ count =
          ap (λ s. get_or (set slots (slot id) count) s 0) q ∙ get_or-set_same slots (slot id) count 0 (omega (arith, slot_small id, ix.slots_size)) in
          record {
            inside = omega (arith, at);
            alike = ap (λ p. slot (get_or (set ids count id) p 0)) at ∙ ap slot last_id ∙ sym q;
            first = λ j l e.
                find_nothing ids count id (place_absent ids count id new) j (omega (arith, at, ix.ids_size))
                (sym (same_id j (omega (arith, at))) ∙ e ∙ ap (λ p. get_or (set ids count id) p 0) at ∙ last_id);
          }
      go k h (no q) =
          let other : k ≢ count = λ e. q (ap (λ p. slot (get_or (set ids count id) p 0)) e ∙ ap slot last_id) in
          let same : get_or (set ids count id) k 0 ≡ get_or ids k 0 = same_id k (omega (arith, other)) in
          let old = ix.used k (omega (arith, other)) in
          let at : held (set slots (slot id) count) (get_or (set ids count id) k 0) ≡ held slots (get_or ids k 0) =
          get_or-set_other slots (slot id) (slot (get_or (set ids count id) k 0)) count 0 q ∙ ap (held slots) same in
          let there : get_or (set ids count id) (held (set slots (slot id) count) (get_or (set ids count id) k 0)) 0 ≡ get_or ids (held slots (get_or ids k 0)) 0 =
          ap (λ p. get_or (set ids count id) p 0) at ∙ same_id (held slots (get_or ids k 0)) old.inside in
          record {
            inside = omega (arith, at, old.inside);
            alike = ap slot there ∙ old.alike ∙ ap slot (sym same);
            first = λ j l e. old.first j (omega (arith, at)) (sym (same_id j (omega (arith, at, old.inside))) ∙ e ∙ there);
          }

-- the slots after a block is appended or refused
module _ (t : BlockTable) (slots : List ℕ) (id above : ℕ) (new : place_of t.ids t.count id ≡ None) (ix : Indexed t.ids slots t.count) where
  abbrev Keeps : Added → Type 0
  Keeps a = Indexed a.table.ids (marked slots id a.answer) a.table.count

  append_keeps : Keeps (append t id above)
  unfolding append
  append_keeps = numbers (ℕ_discrete (get_or t.numbers above 0) 4294967295) (ℕ_discrete t.count BLOCKS)
    where
      numbers : Dec (get_or t.numbers above 0 ≡ 4294967295) → Dec (t.count ≡ BLOCKS) → Keeps (append t id above)
      numbers (yes q) d = rw (eq-eqb _ _ q) ix
      numbers (no q) (yes r) = rw (ne_eqb _ _ q, eq-eqb _ _ r) ix
      numbers (no q) (no r) = rw (ne_eqb _ _ q, ne_eqb _ _ r) (placed_indexed t.ids slots t.count id (omega (arith, ix.few)) new ix)

  pub append_indexed : (a : Result ℕ Refusal) (u : BlockTable) → record { answer = a; table = u } ≡ append t id above
      → (next : List ℕ) → next ≡ marked slots id a → Indexed u.ids next u.count
  append_indexed a u e next m = subst (λ (s : List ℕ). Indexed u.ids s u.count) (sym m) (subst Keeps (sym e) append_keeps)
