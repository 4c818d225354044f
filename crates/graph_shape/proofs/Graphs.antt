-- The test of the shape rules passes exactly on the columns that keep them.
use mathlib.Core.Bool.{Bool, true, false, cond, not, ◌&&◌, ◌||◌}
use mathlib.Core.List.{List}
use mathlib.Core.Path.{◌≡◌, refl, sym, subst, ◌∙◌}
use mathlib.Core.Logic.{◌≢◌, ◌⊎◌, inl, inr}
use Prim.Native.Nat.{ℕ, zero, suc, pred, ◌≤◌, ◌<◌}
use native.Mathlib.Decide.{dec_lt, ℕ_discrete}
use native.Mathlib.Omega.{arith}
use lib.Dec.{T, eqb, ltb, eqb→eq, ltb→lt, T_not, not_T}
use lib.ListN.{get_or, length, length-set, get_or-eq_default}
use lib.Seq.{get_or-set_other, ext_get_or}
use borrow.Author.Tests.{eq-eqb, lt-ltb}
use Rattle.loops.specs.Listing.{times, front}
use Rattle.loops.proofs.Tests.{T_true, true_T, false_not, both, left_of, right_of, in_left, in_right, either, dec_T}
use Rattle.loops.proofs.Alls.{all_at, all_intro}
use Rattle.columns.specs.Blank.{blank}
use Rattle.grandpa.specs.Tree.{below}
use Rattle.graph.specs.Search.{nearest}
use Rattle.graph.specs.Graph.{no_bits}
use Rattle.graph.specs.Shape.{Tip, Nodes}
use Rattle.nodes.specs.Nodes.{col, flag, row, Falls}
use Rattle.nodes.specs.Columns.{Columns, Sized, Sound}
use Rattle.graph_sweeps.specs.Swept.{inside, tied}
use Rattle.sizes.specs.Sizes.{WORDS, BLOCKS}
use Rattle.lists.specs.Laid.{once_each, laid}
use Rattle.graph_lists.specs.Listed.{childless, rising, zero_bits, bare}
use Rattle.graph_shape.specs.Graphed.{counted, others, graphed, Clear}
use Rattle.graph_shape.proofs.Counts.{Counts, counted_says, says_counted}
use Rattle.graph_shape.proofs.Marks.{unset, struck_length, left_says, says_left, blank_padded, padded_blank, Once, once_says, says_once}
use Rattle.graph_shape.proofs.Heads.{rising_says, says_rising}
use Rattle.graph_shape.proofs.Tips.{above_earlier, tip_of, tip_lists}

-- a marked place is within the column
marked_in : (marks : List Bool) (x : ℕ) → length marks ≡ BLOCKS → T (flag marks x) → x < BLOCKS
marked_in marks x s t = go (dec_lt x BLOCKS)
  where
    go : Dec (x < BLOCKS) → x < BLOCKS
    go (yes l) = l
    go (no l) = absurd (subst T (get_or-eq_default marks false (omega arith)) t)

module _ (used : List Bool) (base : ℕ) where
  others_says : (x : ℕ) → T (flag (others used base) x) → T (flag used x) × (x ≢ base)
  others_says x t = go (ℕ_discrete x base)
    where
      go : Dec (x ≡ base) → T (flag used x) × (x ≢ base)
      go (yes e) = absurd (subst T (unset used base) (subst (λ (y : ℕ). T (flag (others used base) y)) e t))
      go (no n) = (subst T (get_or-set_other used base x false false n) t, n)

  says_others : (x : ℕ) → T (flag used x) → x ≢ base → T (flag (others used base) x)
  says_others x u n = subst T (sym (get_or-set_other used base x false false n)) u

module _ (parents : List ℕ) (count base : ℕ) (used : List Bool) where
  inside_says : length used ≡ BLOCKS → T (inside parents count base used) → (x : ℕ) → T (flag used x) → (x < count) × T (below (col parents) base x)
  unfolding inside
  inside_says s t x u = go (either (not (flag used x)) _ (all_at _ BLOCKS t x (marked_in used x s u)))
    where
      go : T (not (flag used x)) ⊎ T (ltb x count && below (col parents) base x) → (x < count) × T (below (col parents) base x)
      go (inl n) = absurd (T_not (flag used x) n u)
      go (inr h) = (ltb→lt x count (left_of (ltb x count) _ h), right_of (ltb x count) _ h)

  says_inside : ((x : ℕ) → T (flag used x) → (x < count) × T (below (col parents) base x)) → T (inside parents count base used)
  unfolding inside
  says_inside f = all_intro _ BLOCKS (λ k h. go k (dec_T (flag used k)))
    where
      go : (k : ℕ) → Dec (T (flag used k)) → T (not (flag used k) || (ltb k count && below (col parents) base k))
      go k (yes u) = in_right (not (flag used k)) _ (both (ltb k count) _ (T_true (lt-ltb k count (f k u).0)) (f k u).1)
      go k (no n) = in_left (not (flag used k)) _ (not_T (flag used k) n)

module _ (parents : List ℕ) (used rest : List Bool) (above : List ℕ) where
  tied_says : length rest ≡ BLOCKS → T (tied parents used rest above) → (k : ℕ) → T (flag rest k)
      → col above k ≡ nearest (col parents) (flag used) (col parents k)
  unfolding tied
  tied_says s t k r = rw (true_T (flag rest k) r) at (eqb→eq (col above k) _ (all_at _ BLOCKS t k (marked_in rest k s r)))

  tied_zero : length above ≡ BLOCKS → T (tied parents used rest above) → (k : ℕ) → (T (flag rest k) → ⊥) → col above k ≡ 0
  unfolding tied
  tied_zero s t k n = go (dec_lt k BLOCKS)
    where
      go : Dec (k < BLOCKS) → col above k ≡ 0
      go (yes l) = rw (false_not (flag rest k) n) at (eqb→eq (col above k) _ (all_at _ BLOCKS t k l))
      go (no l) = get_or-eq_default above 0 (omega arith)

  says_tied : ((k : ℕ) → T (flag rest k) → col above k ≡ nearest (col parents) (flag used) (col parents k))
      → ((k : ℕ) → (T (flag rest k) → ⊥) → col above k ≡ 0) → T (tied parents used rest above)
  unfolding tied
  says_tied f z = all_intro _ BLOCKS (λ k h. T_true (eq-eqb (col above k) _ (go k (flag rest k) refl)))
    where
      go : (k : ℕ) (b : Bool) → flag rest k ≡ b → col above k ≡ cond b (nearest (col parents) (flag used) (col parents k)) 0
      go k true e = f k (T_true e)
      go k false e = z k (λ t. subst T e t)

two_zeros : (bits : List ℕ) → length bits ≡ WORDS → T (zero_bits bits) → bits ≡ no_bits
two_zeros bits s t = ext_get_or 0 bits no_bits s at
  where
    at : (i : ℕ) → i < length bits → get_or bits i 0 ≡ get_or no_bits i 0
    at zero h = eqb→eq (get_or bits 0 0) 0 (left_of (eqb (get_or bits 0 0) 0) _ t)
    at (suc zero) h = eqb→eq (get_or bits 1 0) 0 (right_of (eqb (get_or bits 0 0) 0) _ t)
    at (suc (suc i)) h = absurd (omega arith)

module _ (used : List Bool) (rows : List (List ℕ)) where
  bare_says : T (bare used rows) → (k : ℕ) → k < BLOCKS → T (not (flag used k)) → T (zero_bits (row rows k))
  unfolding bare
  bare_says t k h n = go (either (flag used k) _ (all_at _ BLOCKS t k h))
    where
      go : T (flag used k) ⊎ T (zero_bits (row rows k)) → T (zero_bits (row rows k))
      go (inl u) = absurd (T_not (flag used k) n u)
      go (inr z) = z

  says_bare : ((k : ℕ) → k < BLOCKS → T (not (flag used k)) → row rows k ≡ no_bits) → T (bare used rows)
  unfolding bare
  says_bare f = all_intro _ BLOCKS (λ k h. go k h (dec_T (flag used k)))
    where
      go : (k : ℕ) → k < BLOCKS → Dec (T (flag used k)) → T (flag used k || zero_bits (row rows k))
      go k h (yes u) = in_left (flag used k) _ u
      go k h (no n) = in_right (flag used k) _ (subst (λ (b : List ℕ). T (zero_bits b)) (sym (f k h (not_T (flag used k) n))) tt)

-- a list laid down in a column
module _ (places : List ℕ) (n : ℕ) (marks : List Bool) where
  laid_once : length marks ≡ BLOCKS → T (laid BLOCKS places n marks) → Once places n marks
  unfolding laid
  laid_once s t = once_says BLOCKS places n marks s (left_of (once_each BLOCKS places n marks) _ t)

  laid_blank : T (laid BLOCKS places n marks) → T (blank places n BLOCKS)
  unfolding laid
  laid_blank t = right_of (once_each BLOCKS places n marks) _ t

  says_laid : Once places n marks → T (blank places n BLOCKS) → T (laid BLOCKS places n marks)
  unfolding laid
  says_laid o b = both (once_each BLOCKS places n marks) _ (says_once BLOCKS places n marks o) b

module _ (parents ids : List ℕ) (base count : ℕ) (g : Columns) where
  -- each test of the whole
  record Passed : Type 0 where
    pub counts : T (counted count base g.used g.listed g.tips)
    pub within : T (inside parents count base g.used)
    pub ties : T (tied parents g.used (others g.used base) g.above)
    pub lists : T (laid BLOCKS g.order g.listed (others g.used base))
    pub ends : T (laid BLOCKS g.heads g.tips (childless g.used g.above (front g.listed g.order)))
    pub rises : T (rising ids g.heads g.tips)
    pub bares : T (bare g.used g.rows)

  passed : T (graphed parents ids base count g) → Passed
  unfolding graphed
  passed t =
      let a = right_of (counted count base g.used g.listed g.tips) _ t in
      let b = right_of (inside parents count base g.used) _ a in
      let c = right_of (tied parents g.used (others g.used base) g.above) _ b in
      let d = right_of (laid BLOCKS g.order g.listed (others g.used base)) _ c in
      let e = right_of (laid BLOCKS g.heads g.tips (childless g.used g.above (front g.listed g.order))) _ d in
      record {
        counts = left_of (counted count base g.used g.listed g.tips) _ t;
        within = left_of (inside parents count base g.used) _ a;
        ties = left_of (tied parents g.used (others g.used base) g.above) _ b;
        lists = left_of (laid BLOCKS g.order g.listed (others g.used base)) _ c;
        ends = left_of (laid BLOCKS g.heads g.tips (childless g.used g.above (front g.listed g.order))) _ d;
        rises = left_of (rising ids g.heads g.tips) _ e;
        bares = right_of (rising ids g.heads g.tips) _ e;
      }

  passes : Passed → T (graphed parents ids base count g)
  unfolding graphed
  passes p =
      both (counted count base g.used g.listed g.tips) _ p.counts
      (both (inside parents count base g.used) _ p.within
      (both (tied parents g.used (others g.used base) g.above) _ p.ties
      (both (laid BLOCKS g.order g.listed (others g.used base)) _ p.lists
      (both (laid BLOCKS g.heads g.tips (childless g.used g.above (front g.listed g.order))) _ p.ends
      (both (rising ids g.heads g.tips) _ p.rises p.bares)))))

  module _ (falls : Falls parents) (sized : Sized g) (p : Passed) where
    counts_are : Counts count base g.used g.listed g.tips
    counts_are = counted_says count base g.used g.listed g.tips p.counts

    in_base : (x : ℕ) → T (flag g.used x) → (x < count) × T (below (col parents) base x)
    in_base = inside_says parents count base g.used sized.used_size p.within

    rest_size : length (others g.used base) ≡ BLOCKS
    rest_size = length-set g.used base false ∙ sized.used_size

    ties_are : (x : ℕ) → T (flag g.used x) → x ≢ base → col g.above x ≡ nearest (col parents) (flag g.used) (col parents x)
    ties_are x u n =
        tied_says parents g.used (others g.used base) g.above rest_size p.ties x (says_others g.used base x u n)

    zero_above : (x : ℕ) → (T (flag (others g.used base) x) → ⊥) → col g.above x ≡ 0
    zero_above = tied_zero parents g.used (others g.used base) g.above sized.above_size p.ties

    listed_once : Once g.order g.listed (others g.used base)
    listed_once = laid_once g.order g.listed (others g.used base) rest_size p.lists

    headed_once : Once g.heads g.tips (childless g.used g.above (front g.listed g.order))
    headed_once =
        laid_once g.heads g.tips (childless g.used g.above (front g.listed g.order))
        (struck_length (col g.above) (front g.listed g.order) g.used ∙ sized.used_size) p.ends

    earlier : Falls g.above
    earlier k = go (dec_T (flag (others g.used base) k))
      where
        go : Dec (T (flag (others g.used base) k)) → col g.above k ≤ pred k
        go (yes r) =
            let o = others_says g.used base k r in
            omega (
              arith,
              above_earlier (col parents) falls (flag g.used) base counts_are.base_used (λ x u. (in_base x u).1) (col g.above) ties_are k o.0 o.1,
            )
        go (no n) = omega (arith, zero_above k n)

    nodes_are : Nodes (col parents) (col ids) base count (flag g.used) (front g.listed g.order) (front g.tips g.heads)
    nodes_are =
        record {
          base_used = counts_are.base_used;
          inside = λ x u. (in_base x u).1;
          tabled = λ x u. (in_base x u).0;
          listed = λ x u n. listed_once.there x (says_others g.used base x u n);
          list_only = list_only;
          headed = λ x u tip.
              headed_once.there x
              (says_left (col g.above) x (front g.listed g.order) g.used u
              (λ n h. tip_lists (col parents) falls (flag g.used) base counts_are.base_used (λ y v. (in_base y v).1) (col g.above) ties_are x tip n
              (list_only n h).0 (list_only n h).1));
          head_only = λ x h. heads_are x (left_says (col g.above) x (front g.listed g.order) g.used (headed_once.only x h));
          rising = rising_says ids g.heads g.tips p.rises;
        }
      where
        list_only : (x : ℕ) → 0 < times x (front g.listed g.order) → T (flag g.used x) × (x ≢ base)
        list_only x h = others_says g.used base x (listed_once.only x h)

        heads_are : (x : ℕ) → T (flag g.used x) × ((n : ℕ) → 0 < times n (front g.listed g.order) → col g.above n ≢ x)
            → T (flag g.used x) × Tip (col parents) (flag g.used) x
        heads_are x s = (
          s.0,
          tip_of (col parents) falls (flag g.used) base counts_are.base_used (λ y v. (in_base y v).1) (col g.above) ties_are x s.0
              (λ y v n. s.1 y (omega (arith, listed_once.there y (says_others g.used base y v n)))),
        )

    sound_are : Sound parents ids base count g
    sound_are =
        record {
          parents_fall = falls;
          above_falls = earlier;
          nodes = nodes_are;
          small = counts_are.few;
          tied = ties_are;
          listed_fits = counts_are.listed_fits;
          tips_fit = counts_are.tips_fit;
          sized = sized;
          order_clear = blank_padded g.order BLOCKS g.listed sized.order_size counts_are.listed_fits (laid_blank g.order g.listed _ p.lists);
          heads_clear = blank_padded g.heads BLOCKS g.tips sized.heads_size counts_are.tips_fit (laid_blank g.heads g.tips _ p.ends);
        }

    clear_are : Clear base g
    clear_are =
        record {
          base_above = zero_above base (λ t. (others_says g.used base base t).1 refl);
          bare_above = λ k n. zero_above k (λ t. T_not (flag g.used k) n (others_says g.used base k t).0);
          bare_rows = λ k h n. two_zeros (row g.rows k) (sized.row_size k h) (bare_says g.used g.rows p.bares k h n);
        }

  pub graphed_means : Falls parents → Sized g → graphed parents ids base count g ≡ true → Sound parents ids base count g × Clear base g
  graphed_means falls sized e = let p = passed (T_true e) in (sound_are falls sized p, clear_are falls sized p)

  module _ (s : Sound parents ids base count g) (c : Clear base g) where
    kept : Passed
    kept =
        record {
          counts = says_counted count base g.used g.listed g.tips
              (record {
                few = s.small;
                listed_fits = s.listed_fits;
                tips_fit = s.tips_fit;
                in_table = s.nodes.tabled base s.nodes.base_used;
                base_used = s.nodes.base_used;
              });
          within = says_inside parents count base g.used (λ x u. (s.nodes.tabled x u, s.nodes.inside x u));
          ties = says_tied parents g.used (others g.used base) g.above
              (λ k r. let o = others_says g.used base k r in s.tied k o.0 o.1) (λ k n. no_above k n (dec_T (flag g.used k)) (ℕ_discrete k base));
          lists = says_laid g.order g.listed (others g.used base)
              (record {
                there = λ x r. let o = others_says g.used base x r in s.nodes.listed x o.0 o.1;
                only = λ x h. let o = s.nodes.list_only x h in says_others g.used base x o.0 o.1;
              })
              (padded_blank g.order BLOCKS g.listed s.order_clear);
          ends = says_laid g.heads g.tips (childless g.used g.above (front g.listed g.order))
              (record { there = λ x r. head x (left_says (col g.above) x (front g.listed g.order) g.used r); only = λ x h. end x (s.nodes.head_only x h) })
              (padded_blank g.heads BLOCKS g.tips s.heads_clear);
          rises = says_rising ids g.heads g.tips s.nodes.rising;
          bares = says_bare g.used g.rows c.bare_rows;
        }
      where
        no_above : (k : ℕ) → (T (flag (others g.used base) k) → ⊥) → Dec (T (flag g.used k)) → Dec (k ≡ base) → col g.above k ≡ 0
        no_above k n (no u) d = c.bare_above k (not_T (flag g.used k) u)
        no_above k n (yes u) (yes e) = rw e c.base_above
        no_above k n (yes u) (no d) = absurd (n (says_others g.used base k u d))

        head : (x : ℕ) → T (flag g.used x) × ((n : ℕ) → 0 < times n (front g.listed g.order) → col g.above n ≢ x)
            → times x (front g.tips g.heads) ≡ 1
        head x r =
            s.nodes.headed x r.0
            (tip_of (col parents) s.parents_fall (flag g.used) base s.nodes.base_used s.nodes.inside (col g.above) s.tied x r.0
            (λ y v n. r.1 y (omega (arith, s.nodes.listed y v n))))

        end : (x : ℕ) → T (flag g.used x) × Tip (col parents) (flag g.used) x
            → T (flag (childless g.used g.above (front g.listed g.order)) x)
        end x r =
            says_left (col g.above) x (front g.listed g.order) g.used r.0
            (λ n h. let o = s.nodes.list_only n h in
            tip_lists (col parents) s.parents_fall (flag g.used) base s.nodes.base_used s.nodes.inside (col g.above) s.tied x r.1 n o.0 o.1)

  pub means_graphed : Sound parents ids base count g → Clear base g → graphed parents ids base count g ≡ true
  means_graphed s c = true_T (graphed parents ids base count g) (passes (kept s c))
