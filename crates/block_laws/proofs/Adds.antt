-- What adding does: the answer that is due, and the shape kept.
use mathlib.Core.Bool.{Bool, true, false}
use mathlib.Core.Path.{◌≡◌, refl, sym, subst, ◌∙◌}
use mathlib.Core.Logic.{◌≢◌, ◌⊎◌, inl, inr}
use Prim.Native.Nat.{ℕ, pred, ◌+◌, ◌≤◌, ◌<◌}
use native.Mathlib.Decide.{ℕ_discrete}
use native.Mathlib.Omega.{arith}
use lib.Dec.{T, eqb→eq}
use lib.ListN.{get_or, set, replicate, length-set, get_or-replicate, get_or-eq_default}
use lib.Seq.{get_or-set_same, get_or-set_other}
use borrow.Author.Tests.{eq-eqb, ne_eqb}
use Rattle.sizes.specs.Sizes.{BLOCKS}
use Rattle.loops.proofs.Tests.{T_true, true_T, false_not, le_or_lt}
use Rattle.columns.specs.Find.{find, contains}
use Rattle.columns.proofs.Finds.{find_at, at_find, contains_at, at_contains}
use Rattle.grandpa.specs.Tree.{Tabled}
use Rattle.grandpa.specs.Time.{Grown}
use Rattle.blocks.specs.declared.BlockTable.{BlockTable}
use Rattle.blocks.specs.declared.Added.{Added}
use Rattle.blocks.specs.Table.{up, blocks, Stands, Absent}
use Rattle.blocks.specs.Add.{place_of, refused, appended, placed, append, step}
use Rattle.block_shape.specs.Shape.{tabled, Shaped}
use Rattle.block_table.specs.Add.{opened, add, Due, breaks_the_shape, already_there, no_parent, last_number, full, room}
use Rattle.block_shape.proofs.Shapes.{tabled_shaped, shaped_tabled}
use Rattle.std.specs.Prelude.{Option, Some, None, Result, Ok, Err}
use Rattle.refusals.specs.declared.Refusal.{Refusal}
use Rattle.refusals.specs.declared.Refusal.TheVariants.{KnownBlock, UnknownParent, NumberOverflow, TableFull, Misshapen}

-- a block that is found stands there, and one that is not found stands nowhere
module _ (t : BlockTable) (s : Shaped t) (id : ℕ) where
  pub found_stands : (k : ℕ) → place_of t.ids t.count id ≡ Some k → Stands t id k
  unfolding place_of
  found_stands k e = go (find t.ids t.count id) refl e
    where
      go : (f : Option ℕ) → find t.ids t.count id ≡ f → f ≡ Some k → Stands t id k
      go (Some j) q r =
          let l = find_at t.ids t.count id j q in
          let j_is : j ≡ k = cc in
          subst (Stands t id) j_is (record { inside = omega (arith, l.inside); named = eqb→eq _ _ l.passes })
      go None q r = absurd (let z : ◌≡◌ {A = ℕ} 0 1 = cc in omega arith)

  pub stands_found : (k : ℕ) → Stands t id k → place_of t.ids t.count id ≡ Some k
  unfolding place_of
  stands_found k p =
      (at_find t.ids t.count id k (omega (arith, s.few, s.ids_size, p.inside)) p.named
      (λ j h e. let q = s.distinct id j k (record { inside = omega (arith, p.inside); named = e }) p in omega arith))

  pub nothing_stands : place_of t.ids t.count id ≡ None → Absent t id
  nothing_stands e k p = let q = stands_found k p in let z : ◌≡◌ {A = ℕ} 0 1 = cc in omega arith

  pub stands_nothing : Absent t id → place_of t.ids t.count id ≡ None
  stands_nothing f = go (place_of t.ids t.count id) refl
    where
      go : (p : Option ℕ) → place_of t.ids t.count id ≡ p → place_of t.ids t.count id ≡ None
      go (Some k) q = absurd (f k (found_stands k q))
      go None q = q

  pub stands_contains : (k : ℕ) → Stands t id k → contains t.ids t.count id ≡ true
  stands_contains k p =
      true_T _ (at_contains t.ids t.count id k (omega (arith, s.few, s.ids_size, p.inside)) p.named)

  pub contains_stands : contains t.ids t.count id ≡ true → (k : ℕ) × Stands t id k
  contains_stands e =
      let r = contains_at t.ids t.count id (T_true e) in
      (r.0, record { inside = omega (arith, r.1); named = r.2 })

  pub none_contains : Absent t id → contains t.ids t.count id ≡ false
  none_contains f = false_not _ (λ h. let r = contains_stands (true_T _ h) in f r.0 r.1)

  pub contains_none : contains t.ids t.count id ≡ false → Absent t id
  contains_none e k p = let q = stands_contains k p in let z : ◌≡◌ {A = ℕ} 0 1 = cc in omega arith

-- the answer is the one that is due
module _ (t : BlockTable) (id parent : ℕ) where
  pub due_answer : (a : Result ℕ Refusal) → Due t id parent a → (add t id parent).answer ≡ a
  unfolding add step append
  due_answer a (breaks_the_shape e) = rw e
  due_answer a (already_there h k p) = rw (true_T (tabled t) h, stands_contains t (tabled_shaped t h) id k p)
  due_answer a (no_parent h f g) = rw (true_T (tabled t) h, none_contains t (tabled_shaped t h) id f, stands_nothing t (tabled_shaped t h) parent g)
  due_answer a (last_number h f k p e) =
      rw (true_T (tabled t) h, none_contains t (tabled_shaped t h) id f, stands_found t (tabled_shaped t h) parent k p, eq-eqb _ _ e)
  due_answer a (full h f k p e n) =
      rw (true_T (tabled t) h, none_contains t (tabled_shaped t h) id f, stands_found t (tabled_shaped t h) parent k p, ne_eqb _ _ e, eq-eqb _ _ n)
  due_answer a (room h f k p e n) =
      rw (
        true_T (tabled t) h,
        none_contains t (tabled_shaped t h) id f,
        stands_found t (tabled_shaped t h) parent k p,
        ne_eqb _ _ e,
        ne_eqb t.count BLOCKS (λ q. omega arith),
      )

  -- one is due
  pub answer_due : Due t id parent (add t id parent).answer
  answer_due = shape (tabled t) refl
    where
      due : {a : Result ℕ Refusal} → Due t id parent a → Due t id parent (add t id parent).answer
      due {a} d = subst (Due t id parent) (sym (due_answer a d)) d

      counts : (h : T (tabled t)) → Absent t id → (k : ℕ) → Stands t parent k → get_or t.numbers k 0 ≢ 4294967295
          → Dec (t.count ≡ BLOCKS) → Due t id parent (add t id parent).answer
      counts h f k p e (yes n) = due (full h f k p e n)
      counts h f k p e (no n) = due (room h f k p e (omega (arith, (tabled_shaped t h).few)))

      numbers : (h : T (tabled t)) → Absent t id → (k : ℕ) → Stands t parent k
          → Dec (get_or t.numbers k 0 ≡ 4294967295) → Due t id parent (add t id parent).answer
      numbers h f k p (yes e) = due (last_number h f k p e)
      numbers h f k p (no e) = counts h f k p e (ℕ_discrete t.count BLOCKS)

      parents : (h : T (tabled t)) → Absent t id → (p : Option ℕ) → place_of t.ids t.count parent ≡ p
          → Due t id parent (add t id parent).answer
      parents h f (Some k) e = numbers h f k (found_stands t (tabled_shaped t h) parent k e) (ℕ_discrete (get_or t.numbers k 0) 4294967295)
      parents h f None e = due (no_parent h f (nothing_stands t (tabled_shaped t h) parent e))

      ids : (h : T (tabled t)) → (b : Bool) → contains t.ids t.count id ≡ b → Due t id parent (add t id parent).answer
      ids h true e = let r = contains_stands t (tabled_shaped t h) id e in due (already_there h r.0 r.1)
      ids h false e = parents h (contains_none t (tabled_shaped t h) id e) (place_of t.ids t.count parent) refl

      shape : (b : Bool) → tabled t ≡ b → Due t id parent (add t id parent).answer
      shape true e = ids (T_true e) (contains t.ids t.count id) refl
      shape false e = due (breaks_the_shape e)

-- a new table keeps the shape
pub opened_shaped : (root number : ℕ) → Shaped (opened root number)
unfolding opened
opened_shaped root number =
    record {
      ids_size = refl;
      numbers_size = refl;
      parents_size = refl;
      rooted = omega arith;
      few = omega arith;
      tree = record { falls = λ k. omega (arith, zeros k); numbered = λ k h l. absurd (omega arith) };
      distinct = λ id j k p q. omega (arith, p.inside, q.inside);
      ids_clear = after root;
      numbers_clear = after number;
      parents_clear = λ k h. zeros k;
    }
  where
    zeros : (k : ℕ) → get_or {A = ℕ} (replicate BLOCKS 0) k 0 ≡ 0
    zeros k = go (le_or_lt BLOCKS k)
      where
        go : (BLOCKS ≤ k) ⊎ (k < BLOCKS) → get_or {A = ℕ} (replicate BLOCKS 0) k 0 ≡ 0
        go (inl h) = get_or-eq_default (replicate BLOCKS 0) 0 h
        go (inr h) = get_or-replicate BLOCKS k 0 0 h

    after : (x k : ℕ) → 1 ≤ k → get_or (set (replicate BLOCKS 0) 0 x) k 0 ≡ 0
    after x k h = get_or-set_other (replicate BLOCKS 0) 0 k x 0 (λ q. omega arith) ∙ zeros k

pub opened_tabled : (root number : ℕ) → tabled (opened root number) ≡ true
opened_tabled root number = true_T _ (shaped_tabled (opened root number) (opened_shaped root number))

-- a block more keeps the shape, and no block changes
module _ (t : BlockTable) (s : Shaped t) (id above : ℕ) (under : above < t.count) (left : t.count < BLOCKS) where
  last_id : get_or (set t.ids t.count id) t.count 0 ≡ id
  last_id = get_or-set_same t.ids t.count id 0 (omega (arith, s.ids_size))

  last_number_is : get_or (set t.numbers t.count (get_or t.numbers above 0 + 1)) t.count 0 ≡ get_or t.numbers above 0 + 1
  last_number_is = get_or-set_same t.numbers t.count _ 0 (omega (arith, s.numbers_size))

  last_parent : get_or (set t.parents t.count above) t.count 0 ≡ above
  last_parent = get_or-set_same t.parents t.count above 0 (omega (arith, s.parents_size))

  same_id : (k : ℕ) → k ≢ t.count → get_or (set t.ids t.count id) k 0 ≡ get_or t.ids k 0
  same_id k n = get_or-set_other t.ids t.count k id 0 n

  same_number_at : (k : ℕ) → k ≢ t.count → get_or (set t.numbers t.count (get_or t.numbers above 0 + 1)) k 0 ≡ get_or t.numbers k 0
  same_number_at k n = get_or-set_other t.numbers t.count k _ 0 n

  same_parent : (k : ℕ) → k ≢ t.count → get_or (set t.parents t.count above) k 0 ≡ get_or t.parents k 0
  same_parent k n = get_or-set_other t.parents t.count k above 0 n

  appended_tree : Tabled (blocks (appended t id above))
  appended_tree = record { falls = λ k. falls k (ℕ_discrete k t.count); numbered = λ k h l. numbered k h l (ℕ_discrete k t.count) }
    where
      falls : (k : ℕ) → Dec (k ≡ t.count) → get_or (set t.parents t.count above) k 0 ≤ pred k
      falls k (yes e) = rw (e, last_parent) (omega arith)
      falls k (no n) = rw (same_parent k n) (s.tree.falls k)

      numbered : (k : ℕ) → 0 < k → k < t.count + 1 → Dec (k ≡ t.count)
          → (blocks (appended t id above)).number k ≡ (blocks (appended t id above)).number ((blocks (appended t id above)).up k) + 1
      numbered k h l (yes e) = rw (e, last_parent, last_number_is, same_number_at above (λ q. omega arith))
      numbered k h l (no n) =
          let f = s.tree.falls k in
          rw (same_parent k n, same_number_at k n, same_number_at (get_or t.parents k 0) (λ q. omega arith)) (s.tree.numbered k h (omega arith))

  pub appended_shaped : Absent t id → Shaped (appended t id above)
  appended_shaped fresh =
      record {
        ids_size = simp length-set s.ids_size;
        numbers_size = simp length-set s.numbers_size;
        parents_size = simp length-set s.parents_size;
        rooted = omega arith;
        few = omega arith;
        tree = appended_tree;
        distinct = λ x j k p q. apart x j k p q (ℕ_discrete j t.count) (ℕ_discrete k t.count);
        ids_clear = λ k h. same_id k (λ q. omega arith) ∙ s.ids_clear k (omega arith);
        numbers_clear = λ k h. same_number_at k (λ q. omega arith) ∙ s.numbers_clear k (omega arith);
        parents_clear = λ k h. same_parent k (λ q. omega arith) ∙ s.parents_clear k (omega arith);
      }
    where
      earlier : (x k : ℕ) → Stands (appended t id above) x k → k ≢ t.count → Stands t x k
      earlier x k p n = record { inside = omega (arith, p.inside); named = sym (same_id k n) ∙ p.named }

      newest : (x j k : ℕ) → Stands (appended t id above) x j → j ≡ t.count → Stands (appended t id above) x k → k ≢ t.count → ⊥
      newest x j k p e q n =
          let x_is : id ≡ x = sym last_id ∙ (rw e at p.named) in
          fresh k (subst (λ (y : ℕ). Stands t y k) (sym x_is) (earlier x k q n))

      apart : (x j k : ℕ) → Stands (appended t id above) x j → Stands (appended t id above) x k → Dec (j ≡ t.count) → Dec (k ≡ t.count) → j ≡ k
      apart x j k p q (yes e) (yes f) = omega arith
      apart x j k p q (yes e) (no n) = absurd (newest x j k p e q n)
      apart x j k p q (no n) (yes f) = absurd (newest x k j q f p n)
      apart x j k p q (no m) (no n) = s.distinct x j k (earlier x j p m) (earlier x k q n)

  pub appended_grown : Grown (blocks t) (blocks (appended t id above))
  appended_grown =
      record {
        more = omega arith;
        same_up = λ k h. sym (same_parent k (λ q. omega arith));
        same_number = λ k h. sym (same_number_at k (λ q. omega arith));
      }

  -- what stood stands, and the new block is the last, under its parent
  pub appended_stands : (x k : ℕ) → Stands t x k → Stands (appended t id above) x k
  appended_stands x k p =
      let h = p.inside in
      record { inside = omega arith; named = same_id k (λ q. omega arith) ∙ p.named }

  pub appended_new : Stands (appended t id above) id t.count
  appended_new = record { inside = omega arith; named = last_id }

  pub appended_parent : up (appended t id above).parents t.count ≡ above
  appended_parent = last_parent

-- a call on a table that keeps the shape refuses, or places the block
pub data Stepped (t : BlockTable) (id parent : ℕ) : Added → Type 0 where
  refuses : (e : Refusal) → Stepped t id parent (refused t e)
  places : (above : ℕ) → Stands t parent above → Absent t id → t.count < BLOCKS → Stepped t id parent (placed t id above)

module _ (t : BlockTable) (s : Shaped t) (id parent : ℕ) where
  pub stepped : Stepped t id parent (step t id parent)
  unfolding step append
  stepped = ids (contains t.ids t.count id) refl
    where
      counts : (c : contains t.ids t.count id ≡ false) (k : ℕ) → place_of t.ids t.count parent ≡ Some k
          → get_or t.numbers k 0 ≢ 4294967295 → Dec (t.count ≡ BLOCKS) → Stepped t id parent (step t id parent)
      counts e k p n (yes q) = rw (e, p, ne_eqb _ _ n, eq-eqb _ _ q) (refuses TableFull)
      counts e k p n (no q) =
          rw (e, p, ne_eqb _ _ n, ne_eqb _ _ q) (places k (found_stands t s parent k p) (contains_none t s id e) (omega (arith, s.few)))

      numbers : contains t.ids t.count id ≡ false → (k : ℕ) → place_of t.ids t.count parent ≡ Some k
          → Dec (get_or t.numbers k 0 ≡ 4294967295) → Stepped t id parent (step t id parent)
      numbers e k p (yes q) = rw (e, p, eq-eqb _ _ q) (refuses NumberOverflow)
      numbers e k p (no q) = counts e k p q (ℕ_discrete t.count BLOCKS)

      parents : contains t.ids t.count id ≡ false → (p : Option ℕ) → place_of t.ids t.count parent ≡ p
          → Stepped t id parent (step t id parent)
      parents e (Some k) p = numbers e k p (ℕ_discrete (get_or t.numbers k 0) 4294967295)
      parents e None p = rw (e, p) (refuses UnknownParent)

      ids : (b : Bool) → contains t.ids t.count id ≡ b → Stepped t id parent (step t id parent)
      ids true e = rw e (refuses KnownBlock)
      ids false e = parents e (place_of t.ids t.count parent) refl

  stepped_shaped : {a : Added} → Stepped t id parent a → Shaped a.table
  stepped_shaped (refuses n) = s
  stepped_shaped (places above p f l) = appended_shaped t s id above p.inside l f

  stepped_grown : {a : Added} → Stepped t id parent a → Grown (blocks t) (blocks a.table)
  stepped_grown (refuses n) = record { more = omega arith; same_up = λ k h. refl; same_number = λ k h. refl }
  stepped_grown (places above p f l) = appended_grown t s id above p.inside l

  stepped_refused : {a : Added} (n : Refusal) → Stepped t id parent a → a.answer ≡ Err n → a.table ≡ t
  stepped_refused n (refuses m) e = refl
  stepped_refused n (places above p f l) e = absurd (let z : ◌≡◌ {A = ℕ} 0 1 = cc in omega arith)

  stepped_placed : {a : Added} (k : ℕ) → Stepped t id parent a → a.answer ≡ Ok k
      → (k ≡ t.count) × (above : ℕ) × Stands t parent above × Absent t id × (t.count < BLOCKS) × (a.table ≡ appended t id above)
  stepped_placed k (refuses m) e = absurd (let z : ◌≡◌ {A = ℕ} 0 1 = cc in omega arith)
  stepped_placed k (places above p f l) e = (cc, above, p, f, l, refl)

  stepped_stands : {a : Added} (x k : ℕ) → Stepped t id parent a → Stands t x k → Stands a.table x k
  stepped_stands x k (refuses n) q = q
  stepped_stands x k (places above p f l) q = appended_stands t s id above p.inside l x k q

  pub step_keeps : Shaped (step t id parent).table
  step_keeps = stepped_shaped stepped

  pub step_grows : Grown (blocks t) (blocks (step t id parent).table)
  step_grows = stepped_grown stepped

  pub step_stands : (x k : ℕ) → Stands t x k → Stands (step t id parent).table x k
  step_stands x k q = stepped_stands x k stepped q

  pub step_refused : (n : Refusal) → (step t id parent).answer ≡ Err n → (step t id parent).table ≡ t
  step_refused n e = stepped_refused n stepped e

  -- a placed block is the last, and new, under a parent that stands
  pub step_placed : (k : ℕ) → (step t id parent).answer ≡ Ok k
      → (k ≡ t.count)
      × (above : ℕ) × Stands t parent above × Absent t id × (t.count < BLOCKS) × ((step t id parent).table ≡ appended t id above)
  step_placed k e = stepped_placed k stepped e

-- the same of any table
module _ (t : BlockTable) (id parent : ℕ) where
  by_shape : (P : Added → Type 0) → (T (tabled t) → P (step t id parent)) → (tabled t ≡ false → P (refused t Misshapen)) → P (add t id parent)
  unfolding add
  by_shape P f g = go (tabled t) refl
    where
      go : (b : Bool) → tabled t ≡ b → P (add t id parent)
      go true e = rw e (f (T_true e))
      go false e = rw e (g e)

  -- adding keeps the shape
  pub add_keeps : T (tabled t) → T (tabled (add t id parent).table)
  add_keeps h =
      by_shape (λ (a : Added). T (tabled a.table))
      (λ s. shaped_tabled (step t id parent).table (step_keeps t (tabled_shaped t s) id parent))
      (λ e. h)

  -- blocks are added and none changes
  pub add_grows : Grown (blocks t) (blocks (add t id parent).table)
  add_grows =
      by_shape (λ (a : Added). Grown (blocks t) (blocks a.table))
      (λ s. step_grows t (tabled_shaped t s) id parent)
      (λ e. record { more = omega arith; same_up = λ k h. refl; same_number = λ k h. refl })

  -- a refusal hands the table back equal
  pub add_refused : (n : Refusal) → (add t id parent).answer ≡ Err n → (add t id parent).table ≡ t
  add_refused n =
      by_shape (λ (a : Added). a.answer ≡ Err n → a.table ≡ t) (λ s. step_refused t (tabled_shaped t s) id parent n) (λ e q. refl)
