-- The sweep that joins the bits of first votes up the table: when the places past m are done, a bit stands in the places past m
-- at or above its target, and in the first of the others that is.
use mathlib.Core.Bool.{Bool, true, false, cond, not, ◌&&◌, ◌||◌, beq}
use mathlib.Core.List.{List, []}
use mathlib.Core.Path.{◌≡◌, refl, sym, ap, subst, ◌∙◌}
use mathlib.Core.Logic.{◌≢◌}
use Prim.Native.Nat.{ℕ, pred, ◌+◌, ◌-◌, ◌≤◌, ◌<◌}
use native.Mathlib.Decide.{ℕ_discrete, dec_lt}
use native.Mathlib.Omega.{arith}
use lib.Dec.{T, eqb, leb, ltb, eqb→eq, leb→le}
use lib.ListN.{set, length, replicate, length-set, get_or-replicate}
use lib.Seq.{get_or-set_same, get_or-set_other}
use borrow.Author.Tests.{eq-eqb, ne_eqb, lt-ltb, le-ltb, le-leb}
use Rattle.sizes.specs.Sizes.{WORDS, VOTES, BLOCKS}
use Rattle.loops.proofs.Tests.{T_true, true_T, same_test, and_false, or_false}
use Rattle.loops.proofs.Alls.{all_cong}
use Rattle.grandpa.specs.Tree.{below}
use Rattle.grandpa.proofs.Trees.{below_up, below_root, below_trans, below_le, below_antisym, below_step}
use Rattle.bitfield.specs.Bits.{has, put, joined}
use Rattle.bitfield.proofs.Sets.{has_none, has_put, has_joined, length_put, length_joined}
use Rattle.graph.specs.Search.{nearest}
use Rattle.graph.specs.Graph.{no_bits}
use Rattle.graph.proofs.Climbs.{until_here, Nearest, nearest_says}
use Rattle.nodes.specs.Nodes.{col, flag, row, Falls}
use Rattle.vote_bits.specs.Told.{aims, lies, same_bits, Held}
use Rattle.vote_bits.proofs.Sames.{upto, upto_none, upto_all, upto_skip, upto_put}

pub held_cong : (rows : List (List ℕ)) (p q : ℕ → ℕ → Bool) → ((x : ℕ) → x < BLOCKS → (j : ℕ) → j < VOTES → p x j ≡ q x j) → Held rows p → Held rows q
held_cong rows p q f s = record { sized = s.sized; words = s.words; says = λ x h j l. s.says x h j l ∙ f x h j l }

-- one row changed
held_set : (rows : List (List ℕ)) (p q : ℕ → ℕ → Bool) (at : ℕ) (bits : List ℕ) → at < BLOCKS → length bits ≡ WORDS
    → ((j : ℕ) → j < VOTES → has bits j ≡ q at j) → ((x : ℕ) → x ≢ at → (j : ℕ) → p x j ≡ q x j) → Held rows p → Held (set rows at bits) q
held_set rows p q at bits h w f g s =
    record {
      sized = length-set rows at bits ∙ s.sized;
      words = λ x l. size x l (ℕ_discrete x at);
      says = λ x l j m. says x l j m (ℕ_discrete x at);
    }
  where
    size : (x : ℕ) → x < BLOCKS → Dec (x ≡ at) → length (row (set rows at bits) x) ≡ WORDS
    size x l (yes e) = rw (e, get_or-set_same rows at bits [] (omega (arith, s.sized))) w
    size x l (no n) = rw (get_or-set_other rows at x bits [] n) (s.words x l)

    says : (x : ℕ) → x < BLOCKS → (j : ℕ) → j < VOTES → Dec (x ≡ at) → has (row (set rows at bits) x) j ≡ q x j
    says x l j m (yes e) = rw (e, get_or-set_same rows at bits [] (omega (arith, s.sized))) (f j m)
    says x l j m (no n) = rw (get_or-set_other rows at x bits [] n) (s.says x l j m ∙ g x n j)

-- the bits of the first votes before index k, at their targets
module _ (counts first_block : List ℕ) where
  abbrev pub sofar : ℕ → ℕ → ℕ → Bool
  sofar k x j = upto (aims counts first_block x) k j

  pub cast_none : (rows : List (List ℕ)) → Held rows (λ x j. false) → Held rows (sofar 0)
  cast_none rows s = held_cong rows (λ x j. false) (sofar 0) (λ x h j l. sym (upto_none (aims counts first_block x) j)) s

  pub cast_skip : (rows : List (List ℕ)) (k : ℕ) → col counts k ≡ 0 → Held rows (sofar k) → Held rows (sofar (k + 1))
  cast_skip rows k e s = held_cong rows (sofar k) (sofar (k + 1)) (λ x h j l. upto_skip (aims counts first_block x) k j (rw e)) s

  pub cast_put : (rows : List (List ℕ)) (k at : ℕ) (more : List ℕ) → k < VOTES → col counts k ≢ 0 → at ≡ col first_block k → at < BLOCKS
      → more ≡ put (row rows at) k → Held rows (sofar k) → Held (set rows at more) (sofar (k + 1))
  cast_put rows k at more h c e l m s =
      rw m
      (held_set rows (sofar k) (sofar (k + 1)) at (put (row rows at) k) l (length_put (row rows at) k ∙ s.words at l)
      (λ j i. has_put (row rows at) k j (omega (arith, s.words at l)) ∙ ap (λ (z : Bool). z || eqb j k) (s.says at l j i)
      ∙ upto_put (aims counts first_block at) k j (rw (lt-ltb 0 (col counts k) (omega arith), eq-eqb (col first_block k) at (sym e))))
      (λ x n j. upto_skip (aims counts first_block x) k j (rw (ne_eqb (col first_block k) x (λ d. n (sym d ∙ sym e))) (and_false (ltb 0 (col counts k)))))
      s)

  -- a target is a place of the table's columns
  abbrev pub Small : ℕ → Type 0
  Small k = (j : ℕ) → j < k → 0 < col counts j → col first_block j < BLOCKS

  pub small_none : Small 0
  small_none j h c = absurd (omega arith)

  pub small_skip : (k : ℕ) → col counts k ≡ 0 → Small k → Small (k + 1)
  small_skip k e s j h c = go (ℕ_discrete j k)
    where
      go : Dec (j ≡ k) → col first_block j < BLOCKS
      go (yes q) = absurd (let z : col counts j ≡ 0 = rw q e in omega arith)
      go (no q) = s j (omega arith) c

  pub small_next : (k at : ℕ) → at ≡ col first_block k → at < BLOCKS → Small k → Small (k + 1)
  small_next k at e l s j h c = go (ℕ_discrete j k)
    where
      go : Dec (j ≡ k) → col first_block j < BLOCKS
      go (yes q) = rw (q, ← e) l
      go (no q) = s j (omega arith) c

and_or : (a b c : Bool) → ((a && b) || (a && c)) ≡ (a && (b || c))
and_or true b c = refl
and_or false b c = refl

module _ (up : ℕ → ℕ) (falls : (k : ℕ) → up k ≤ pred k) where
  -- the first place at or above t that is not past m
  abbrev pub stop : ℕ → ℕ → ℕ
  stop m t = nearest up (λ y. leb y m) t

  abbrev Stops : ℕ → ℕ → ℕ → Type 0
  Stops m t r = Nearest up falls (λ y. leb y m) t r

  stops : (m t : ℕ) → Stops m t (stop m t)
  stops m t = nearest_says up falls (λ y. leb y m) 0 (T_true (le-leb 0 m (omega arith))) t (below_root up falls t)

  stop_is : (m t r : ℕ) → Stops m t r → stop m t ≡ r
  stop_is m t r s =
      let o = stops m t in
      below_antisym up falls (stop m t) r (s.first (stop m t) o.is_node o.above) (o.first r s.is_node s.above)

  stop_le : (m t : ℕ) → stop m t ≤ m
  stop_le m t = leb→le (stop m t) m (stops m t).is_node

  stop_here : (m t : ℕ) → t ≤ m → stop m t ≡ t
  unfolding nearest
  stop_here m t h = until_here up falls (λ y. leb y m) t (le-leb t m h)

  stop_same : (m t : ℕ) → stop m t ≢ m → stop (m - 1) t ≡ stop m t
  stop_same m t n =
      stop_is (m - 1) t (stop m t)
      (record {
        is_node = T_true (le-leb (stop m t) (m - 1) (omega (arith, stop_le m t)));
        above = (stops m t).above;
        first = λ y v l. (stops m t).first y (T_true (le-leb y m (let k = leb→le y (m - 1) v in omega arith))) l;
      })

  stop_up : (m t : ℕ) → 0 < m → stop m t ≡ m → stop (m - 1) t ≡ up m
  stop_up m t h e =
      stop_is (m - 1) t (up m)
      (record {
        is_node = T_true (le-leb (up m) (m - 1) (omega (arith, falls m)));
        above = below_trans up falls (up m) m t (below_up up falls m) (subst (λ (z : ℕ). T (below up z t)) e (stops m t).above);
        first = λ y v l.
            let k = leb→le y (m - 1) v in
            below_step up falls y m (subst (λ (z : ℕ). T (below up y z)) e ((stops m t).first y (T_true (le-leb y m (omega arith))) l)) (λ q. omega arith);
      })

  -- whether a bit for t stands at x when the places past m are done
  abbrev pub stands : ℕ → ℕ → ℕ → Bool
  stands m x t = cond (ltb m x) (below up x t) (eqb (stop m t) x)

  stands_first : (x t : ℕ) → t < BLOCKS → x < BLOCKS → eqb t x ≡ stands (BLOCKS - 1) x t
  stands_first x t h l = rw (le-ltb (BLOCKS - 1) x (omega arith), stop_here (BLOCKS - 1) t (omega arith))

  stands_last : (x t : ℕ) → stands 0 x t ≡ below up x t
  stands_last x t = go (ℕ_discrete x 0)
    where
      go : Dec (x ≡ 0) → stands 0 x t ≡ below up x t
      go (yes e) = rw e (eq-eqb (stop 0 t) 0 (omega (arith, stop_le 0 t)) ∙ sym (true_T _ (below_root up falls t)))
      go (no n) = rw (lt-ltb 0 x (omega arith))

  stands_up : (m t : ℕ) → 0 < m → (stands m (up m) t || stands m m t) ≡ stands (m - 1) (up m) t
  stands_up m t h =
      rw (le-ltb m (up m) (omega (arith, falls m)), le-ltb m m (omega arith), le-ltb (m - 1) (up m) (omega (arith, falls m))) (go (ℕ_discrete (stop m t) m))
    where
      go : Dec (stop m t ≡ m) → (eqb (stop m t) (up m) || eqb (stop m t) m) ≡ eqb (stop (m - 1) t) (up m)
      go (yes e) =
          rw (stop_up m t h e, e, eq-eqb m m refl, eq-eqb (up m) (up m) refl, ne_eqb m (up m) (λ q. omega (arith, falls m)))
      go (no n) = rw (stop_same m t n, ne_eqb (stop m t) m n) (or_false (eqb (stop m t) (up m)))

  stands_other : (m x t : ℕ) → 0 < m → x ≢ up m → stands m x t ≡ stands (m - 1) x t
  stands_other m x t h n = side (dec_lt m x) (ℕ_discrete x m)
    where
      before : Dec (stop m t ≡ m) → x < m → eqb (stop m t) x ≡ eqb (stop (m - 1) t) x
      before (yes e) l =
          rw (stop_up m t h e, e, ne_eqb m x (λ q. omega arith), ne_eqb (up m) x (λ q. n (sym q)))
      before (no d) l = rw (stop_same m t d)

      here : eqb (stop m t) m ≡ below up m t
      here =
          same_test (eqb (stop m t) m) (below up m t)
          (λ q. subst (λ (z : ℕ). T (below up z t)) (eqb→eq (stop m t) m q) (stops m t).above)
          (λ q. T_true (eq-eqb (stop m t) m
          (omega (arith, stop_le m t, below_le up falls m (stop m t) ((stops m t).first m (T_true (le-leb m m (omega arith))) q)))))

      side : Dec (m < x) → Dec (x ≡ m) → stands m x t ≡ stands (m - 1) x t
      side (yes l) d = rw (lt-ltb m x l, lt-ltb (m - 1) x (omega arith))
      side (no l) (yes e) = rw (e, le-ltb m m (omega arith), lt-ltb (m - 1) m (omega arith)) here
      side (no l) (no d) = rw (le-ltb m x (omega arith), le-ltb (m - 1) x (omega arith)) (before (ℕ_discrete (stop m t) m) (omega arith))

module _ (parents counts first_block : List ℕ) (falls : Falls parents) where
  abbrev pub lifted : ℕ → ℕ → ℕ → Bool
  lifted m x j = ltb 0 (col counts j) && stands (col parents) falls m x (col first_block j)

  pub lift_start : (rows : List (List ℕ)) (k : ℕ) → VOTES ≤ k → Small counts first_block k → Held rows (sofar counts first_block k) → Held rows (lifted (BLOCKS - 1))
  lift_start rows k h small s =
      held_cong rows (sofar counts first_block k) (lifted (BLOCKS - 1))
      (λ x l j m. upto_all (aims counts first_block x) k j (omega arith) ∙ go x l j m (dec_lt 0 (col counts j))) s
    where
      go : (x : ℕ) → x < BLOCKS → (j : ℕ) → j < VOTES → Dec (0 < col counts j) → aims counts first_block x j ≡ lifted (BLOCKS - 1) x j
      go x l j m (yes c) = rw (stands_first (col parents) falls x (col first_block j) (small j (omega arith) c) l)
      go x l j m (no c) = rw (le-ltb 0 (col counts j) (omega arith))

  pub lift_next : (rows : List (List ℕ)) (m over : ℕ) (more : List ℕ) → 0 < m → m < BLOCKS → over ≡ col parents m → over < BLOCKS
      → more ≡ joined (row rows over) (row rows m) → Held rows (lifted m) → Held (set rows over more) (lifted (m - 1))
  lift_next rows m over more h l e o q s =
      rw q
      (held_set rows (lifted m) (lifted (m - 1)) over (joined (row rows over) (row rows m)) o
      (length_joined (row rows over) (row rows m) ∙ s.words over o)
      (λ j i. has_joined (row rows over) (row rows m) (s.words over o ∙ sym (s.words m l)) j ∙ both j i)
      (λ x n j. ap (λ (b : Bool). ltb 0 (col counts j) && b) (stands_other (col parents) falls m x (col first_block j) h (λ d. n (d ∙ sym e)))) s)
    where
      both : (j : ℕ) → j < VOTES → (has (row rows over) j || has (row rows m) j) ≡ lifted (m - 1) over j
      both j i =
          rw (s.says over o j i, s.says m l j i)
          (and_or (ltb 0 (col counts j)) (stands (col parents) falls m over (col first_block j)) (stands (col parents) falls m m (col first_block j))
          ∙ ap (λ (b : Bool). ltb 0 (col counts j) && b) (rw e (stands_up (col parents) falls m (col first_block j) h)))

  pub lift_end : (rows : List (List ℕ)) (m : ℕ) → m ≤ 0 → Held rows (lifted m) → Held rows (lies parents counts first_block)
  lift_end rows m h s =
      let e : m ≡ 0 = omega arith in
      held_cong rows (lifted 0) (lies parents counts first_block)
      (λ x l j i. ap (λ (b : Bool). ltb 0 (col counts j) && b) (stands_last (col parents) falls x (col first_block j)))
      (subst (λ (n : ℕ). Held rows (lifted n)) e s)

pub told_turn : (used : List Bool) (rows joins : List (List ℕ)) (p : ℕ → ℕ → Bool) (x : ℕ) → x < BLOCKS → Held joins p
    → (not (flag used x) || same_bits (row rows x) (p x)) ≡ (not (flag used x) || same_bits (row rows x) (has (row joins x)))
told_turn used rows joins p x h s =
    ap (λ (b : Bool). not (flag used x) || b)
    (all_cong VOTES (λ j. beq (has (row rows x) j) (p x j)) (λ j. beq (has (row rows x) j) (has (row joins x) j))
    (λ j l. ap (beq (has (row rows x) j)) (sym (s.says x h j l))))

pub held_none : Held (replicate BLOCKS no_bits) (λ x j. false)
held_none =
    record {
      sized = refl;
      words = λ x h. ap length (get_or-replicate BLOCKS x no_bits [] h);
      says = λ x h j l. ap (λ (ws : List ℕ). has ws j) (get_or-replicate BLOCKS x no_bits [] h) ∙ has_none WORDS j;
    }
