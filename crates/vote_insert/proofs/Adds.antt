-- A new node in columns, from what its parts give.
use mathlib.Core.Bool.{true, false}
use mathlib.Core.List.{List, [], ◌∷◌}
use mathlib.Core.Path.{◌≡◌, refl, sym, ap, ◌∙◌}
use Prim.Native.Nat.{ℕ, ◌≤◌, ◌<◌}
use native.Mathlib.Omega.{arith}
use lib.ListN.{set, take, length}
use Rattle.sizes.specs.Sizes.{BLOCKS}
use Rattle.loops.specs.Listing.{front}
use Rattle.loops.proofs.Listings.{length_front}
use Rattle.graph.specs.Search.{nearest}
use Rattle.graph.specs.Graph.{join_of, enter, relist, rehead}
use Rattle.nodes.specs.declared.Places.{Places}
use Rattle.nodes.specs.Nodes.{col, flag, row, placed, found}
use Rattle.nodes.specs.Columns.{Columns}
use Rattle.vote_lists.specs.Placing.{listing, without}
use Rattle.vote_insert.specs.Insert.{set_all, added, marked, with_rows, inserted, Addable}
use Rattle.nodes.proofs.Lists.{front_take, placed_front, placed_count}
use Rattle.vote_lists.proofs.Lists.{length_enter}
use Rattle.vote_lists.proofs.Relists.{length_relist}

-- the new heads
rehead_some : (ids : ℕ → ℕ) (t above : ℕ) (ms heads : List ℕ) → 0 < length ms → rehead ids t ms above heads ≡ heads
rehead_some ids t above [] heads h = absurd (omega arith)
rehead_some ids t above (m ∷ ms) heads h = refl

rehead_none : (ids : ℕ → ℕ) (t above : ℕ) (ms heads : List ℕ) → length ms ≤ 0 → rehead ids t ms above heads ≡ enter ids t (without above heads)
rehead_none ids t above [] heads h = refl
rehead_none ids t above (m ∷ ms) heads h = absurd (omega arith)

same_columns : (a b : Columns) → a.used ≡ b.used → a.above ≡ b.above → a.rows ≡ b.rows → a.order ≡ b.order → a.listed ≡ b.listed
    → a.heads ≡ b.heads → a.tips ≡ b.tips → a ≡ b
same_columns a b e1 e2 e3 e4 e5 e6 e7 =
    λ i. record { used = e1 i; above = e2 i; rows = e3 i; order = e4 i; listed = e5 i; heads = e6 i; tips = e7 i }

module _ (parents ids : List ℕ) (t : ℕ) (g : Columns) (room : Addable parents ids t g) (lh : length g.heads ≡ BLOCKS) (lo : length g.order ≡ BLOCKS)
    (m : Places) (em : m ≡ placed (found (col parents) (col g.above) (take g.tips g.heads) t)) where
  -- the lists as the code reads them
  abbrev heads : List ℕ
  heads = take g.tips g.heads

  abbrev order : List ℕ
  order = take g.listed g.order

  eh : heads ≡ front g.tips g.heads
  eh = sym (front_take g.tips g.heads (omega (arith, room.tips_fit, lh)))

  eo : order ≡ front g.listed g.order
  eo = sym (front_take g.listed g.order (omega (arith, room.listed_fits, lo)))

  abbrev ms : List ℕ
  ms = found (col parents) (col g.above) (front g.tips g.heads) t

  met : found (col parents) (col g.above) heads t ≡ ms
  met = ap (λ (l : List ℕ). found (col parents) (col g.above) l t) eh

  is : listing m ≡ ms
  is = placed_front m _ em ∙ met

  count_is : m.count ≡ length ms
  count_is = placed_count m _ em ∙ ap length met

  abbrev over : ℕ
  over = nearest (col parents) (flag g.used) (col parents t)

  list_fits : length (relist t ms (front g.listed g.order)) ≤ BLOCKS
  unfolding added
  list_fits = room.list_fits

  pub few : m.count ≤ BLOCKS
  few = omega (arith, count_is, list_fits, length_relist (front g.listed g.order) ms t)

  pub list_room : (members : List ℕ) → members ≡ listing m → (length order ≤ BLOCKS) × (length (relist t members order) ≤ BLOCKS)
  list_room members e = (omega (arith, ap length eo, length_front g.listed g.order, room.listed_fits), rw (e, is, eo) list_fits)

  pub heads_room : m.count ≤ 0 → (a : ℕ) → a ≡ over → (length heads ≤ BLOCKS) × (length (without a heads) < BLOCKS)
  unfolding added
  heads_room none a e = (
    omega (arith, ap length eh, length_front g.tips g.heads, room.tips_fit),
    rw (e, eh)
        (omega (
          arith,
          length_enter (col ids) t (without over (front g.tips g.heads)),
          room.heads_fit,
          ap length (rehead_none (col ids) t over ms (front g.tips g.heads) (omega (arith, count_is))),
        )),
  )

  module _ (members : List ℕ) (ex : members ≡ listing m) (k a : ℕ) (bits above' : List ℕ) (list : Places) (ek : k ≡ t)
      (ea : a ≡ nearest (col parents) (flag g.used) (col parents k)) (eb : bits ≡ join_of (row g.rows) members)
      (el : list ≡ placed (relist t members order)) (es : above' ≡ set_all g.above members t) where
    pub is_over : a ≡ over
    is_over = ea ∙ ap (λ (x : ℕ). nearest (col parents) (flag g.used) (col parents x)) ek

    members_are : members ≡ ms
    members_are = ex ∙ is

    listed_is : list ≡ placed (relist t ms (front g.listed g.order))
    listed_is =
        el ∙ ap (λ (l : List ℕ). placed (relist t l order)) members_are ∙ ap (λ (l : List ℕ). placed (relist t ms l)) eo

    -- the columns that do not ask which it was
    with_heads : (heads : List ℕ) (tips : ℕ) → heads ≡ (added parents ids t g).heads → tips ≡ (added parents ids t g).tips
        → ◌≡◌ {A = Columns}
        (record { used = set g.used k true; above = set above' k a; rows = set g.rows k bits; order = list.places; listed = list.count; heads = heads; tips = tips })
        (added parents ids t g)
    unfolding added placed
    with_heads heads tips eh et =
        same_columns _ (added parents ids t g)
        (ap (λ (x : ℕ). set g.used x true) ek)
        (rw (ek, es, members_are, is_over))
        (rw (ek, eb, members_are))
        (ap (λ (p : Places). p.places) listed_is)
        (ap (λ (p : Places). p.count) listed_is)
        eh et

    pub added_some : 0 < m.count
        → ◌≡◌ {A = Columns}
        (record { used = set g.used k true; above = set above' k a; rows = set g.rows k bits; order = list.places; listed = list.count; heads = g.heads; tips = g.tips })
        (added parents ids t g)
    unfolding added
    added_some h =
        let e : rehead (col ids) t ms over (front g.tips g.heads) ≡ front g.tips g.heads =
        rehead_some (col ids) t over ms (front g.tips g.heads) (omega (arith, count_is)) in
        with_heads g.heads g.tips (rw e room.heads_clear) (rw e (sym (length_front g.tips g.heads)))

    pub added_none : m.count ≤ 0 → (next : Places) → next ≡ placed (enter (col ids) t (without a heads))
        → ◌≡◌ {A = Columns}
        (record { used = set g.used k true; above = set above' k a; rows = set g.rows k bits; order = list.places; listed = list.count; heads = next.places; tips = next.count })
        (added parents ids t g)
    unfolding added placed
    added_none h next en =
        let e : rehead (col ids) t ms over (front g.tips g.heads) ≡ enter (col ids) t (without over (front g.tips g.heads)) =
        rehead_none (col ids) t over ms (front g.tips g.heads) (omega (arith, count_is)) in
        let n : next ≡ placed (enter (col ids) t (without over (front g.tips g.heads))) =
        en ∙ ap (λ (x : ℕ). placed (enter (col ids) t (without x heads))) is_over ∙ ap (λ (l : List ℕ). placed (enter (col ids) t (without over l))) eh in
        with_heads next.places next.count
        (rw e (ap (λ (p : Places). p.places) n)) (rw e (ap (λ (p : Places). p.count) n))

-- a vote for a block that has a node, and for one that has none
module _ (parents ids : List ℕ) (base t j : ℕ) (g : Columns) where
  pub inserted_there : flag g.used t ≡ true → (rows : List (List ℕ)) → rows ≡ marked g.above base j t g.rows
      → with_rows g rows ≡ inserted parents ids base t j g
  unfolding inserted
  inserted_there e rows er = rw (e, er)

  pub inserted_new : flag g.used t ≡ false → (h : Columns) → h ≡ added parents ids t g → (rows : List (List ℕ)) → rows ≡ marked h.above base j t h.rows
      → with_rows h rows ≡ inserted parents ids base t j g
  unfolding inserted
  inserted_new e h eh rows er = rw (e, er, eh)
