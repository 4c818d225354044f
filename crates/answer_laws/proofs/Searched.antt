-- The searches end where the definitions say.
use mathlib.Core.Bool.{Bool, not, ◌&&◌, ◌||◌}
use mathlib.Core.Path.{◌≡◌, refl, sym, ap, subst, fun_ext, ◌∙◌}
use mathlib.Core.Logic.{◌⊎◌, inl, inr, ⊎_elim}
use Prim.Native.Nat.{ℕ, ◌≤◌, ◌<◌}
use native.Mathlib.Decide.{ℕ_discrete}
use native.Mathlib.Omega.{arith}
use lib.Dec.{T, eqb, ltb, eqb→eq, eqb_refl, lt→ltb, T_not, not_T}
use borrow.Author.Tests.{eq-eqb, ne_eqb}
use Rattle.loops.specs.All.{all}
use Rattle.loops.proofs.Tests.{both, left_of, right_of, in_left, in_right, either, same_test, le_or_lt}
use Rattle.loops.proofs.Alls.{all_at, all_intro, any_at, any_intro}
use Rattle.grandpa.specs.Tree.{below, child}
use Rattle.grandpa.specs.Vote as meant
use Rattle.grandpa.specs.Vote.{Vote, silent, lands, noded}
use Rattle.grandpa.specs.Possible.{possible_at}
use Rattle.grandpa.specs.Answers.{First, Says, first_of, with_node, settled_at}
use Rattle.grandpa.proofs.Trees.{below_le, child_below}
use Rattle.grandpa.proofs.Searches.{first_says}
use Rattle.layouts.specs.Layout.{index_place}
use Rattle.context.specs.declared.Phase.{Phase}
use Rattle.context.specs.declared.Phase.TheVariants.{Prevote, Precommit}
use Rattle.context.specs.Votes.{bit, phase_at}
use Rattle.context.proofs.Places.{bit_parts}
use Rattle.graph.specs.Graph.{tally}
use Rattle.graph.specs.Shape.{Targets}
use Rattle.graph.proofs.Tallies.{lands_target, target_lands}
use Rattle.graph.proofs.Ghosts.{Ended, ghost_ends, ghost_stays, ancestor_is}
use Rattle.nodes.specs.Nodes.{col, flag, Question, passes}
use Rattle.nodes.specs.Columns.{view}
use Rattle.vote_search.proofs.Questions.{passes_mono}
use Rattle.answers.specs.Update.{weighty, still, ancestor_from, ghost_from, ends_at, settled}
use Rattle.answer_laws.specs.Faithful.{Setting, table, voters, votes, scene_of, Faithful, Within}
use Rattle.answer_laws.proofs.Weighed.{weighty_is, possible_is}
use Rattle.std.specs.Prelude.{Option, Some, None}

module _ (k : Setting) (f : Faithful k) where
  abbrev up : ℕ → ℕ
  up = col k.parents

  -- the question asked of a block's joined bits
  abbrev pub asks : Question → ℕ → Bool
  asks q b = passes k.set.weights q (tally up (view k.graph) b)

  abbrev possible_question : Question
  possible_question = still (scene_of k) k.set.total k.heard.precommit

  -- where a search for q ends
  abbrev pub Ends : Question → ℕ → ℕ → Type 0
  Ends q = Ended up (col k.ids) f.tabled.falls k.base k.count k.cast (view k.graph) f.shape (passes k.set.weights q) (passes_mono k.set.weights q) f.small

  pub tabled_in : (b : ℕ) → Within k b → b < k.count
  tabled_in b w = omega (arith, below_le up f.tabled.falls b w.node w.under, f.shape.nodes.tabled w.node w.is_node)

  -- the search towards the base, for any question
  ancestor_asked : (q : Question) (ok : ℕ → Bool) → ((b : ℕ) → asks q b ≡ ok b) → (b : ℕ) → Within k b
      → ancestor_from (scene_of k) q b ≡ (first_of up ok k.base b)
  ancestor_asked q ok same b w =
      (ancestor_is up (col k.ids) f.tabled.falls k.base k.count k.cast (view k.graph) f.shape (passes k.set.weights q) (passes_mono k.set.weights q) f.small b w.node w.is_node w.under
      ∙ ap (λ (p : ℕ → Bool). first_of up p k.base b) (fun_ext same))

  pub finalized_is : (b : ℕ) → Within k b
      → ancestor_from (scene_of k) (weighty (scene_of k) Precommit) b ≡ (first_of up (meant.weighty (voters k) up (votes k Precommit)) k.base b)
  finalized_is = ancestor_asked (weighty (scene_of k) Precommit) (meant.weighty (voters k) up (votes k Precommit)) (weighty_is k f Precommit)

  pub estimate_is : (b : ℕ) → Within k b
      → ancestor_from (scene_of k) (still (scene_of k) k.set.total k.heard.precommit) b
      ≡ (first_of up (possible_at (voters k) up (votes k Precommit)) k.base b)
  estimate_is = ancestor_asked possible_question (possible_at (voters k) up (votes k Precommit)) (possible_is k f)

  -- a block asked: a child of g in the table with a node at or below it
  abbrev asked_child : ℕ → ℕ → Bool
  asked_child g c = child up g c && (with_node (voters k) (table k) (votes k Prevote) (votes k Precommit) c && possible_at (voters k) up (votes k Precommit) c)

  -- the first vote of a bit is one of a voter's in a phase
  of_voter : (j x : ℕ) → Targets (k.cast j) x → (c : ℕ) → T (below up c x) → T (noded (voters k) up (votes k Prevote) (votes k Precommit) c)
  of_voter j x t c l = go (phase_at j) (bit_parts j) (le_or_lt k.set.count (index_place j))
    where
      lands_at : (i : ℕ) → i ≡ j → T (lands up c (k.cast i))
      lands_at i e = target_lands up c x (k.cast i) (subst (λ (n : ℕ). Targets (k.cast n) x) (sym e) t) l

      not_silent : (v : Vote) → v ≡ silent → T (lands up c v) → ⊥
      not_silent v e h = subst (λ (y : Vote). T (lands up c y)) e h

      shown : T (lands up c (votes k Prevote (index_place j)) || lands up c (votes k Precommit (index_place j))) → (k.set.count ≤ index_place j) ⊎ (index_place j < k.set.count)
          → T (noded (voters k) up (votes k Prevote) (votes k Precommit) c)
      shown h (inl p) =
          absurd (⊎_elim (not_silent _ (f.no_voter Prevote (index_place j) p)) (not_silent _ (f.no_voter Precommit (index_place j) p)) (either (lands up c (votes k Prevote (index_place j))) _ h))
      shown h (inr p) = any_intro (λ i. lands up c (votes k Prevote i) || lands up c (votes k Precommit i)) k.set.count (index_place j) p h

      go : (phase : Phase) → bit phase (index_place j) ≡ j → (k.set.count ≤ index_place j) ⊎ (index_place j < k.set.count)
          → T (noded (voters k) up (votes k Prevote) (votes k Precommit) c)
      go Prevote e o = shown (in_left (lands up c (votes k Prevote (index_place j))) (lands up c (votes k Precommit (index_place j))) (lands_at (bit Prevote (index_place j)) e)) o
      go Precommit e o = shown (in_right (lands up c (votes k Prevote (index_place j))) (lands up c (votes k Precommit (index_place j))) (lands_at (bit Precommit (index_place j)) e)) o

  -- and a voter's lies at a node
  at_node : (c : ℕ) → T (noded (voters k) up (votes k Prevote) (votes k Precommit) c) → (y : ℕ) × T (flag k.graph.used y) × T (below up c y)
  at_node c h =
      let i = any_at (λ i. lands up c (votes k Prevote i) || lands up c (votes k Precommit i)) k.set.count h in
      ⊎_elim (found (bit Prevote i.0)) (found (bit Precommit i.0)) (either (lands up c (votes k Prevote i.0)) _ i.2)
    where
      found : (j : ℕ) → T (lands up c (k.cast j)) → (y : ℕ) × T (flag k.graph.used y) × T (below up c y)
      found j l = let x = lands_target up c (k.cast j) l in (x.0, f.shape.voted.target_used j x.0 x.1, x.2)

  -- the search from g stays there exactly where no child of g with a node at or below it is possible
  pub stays_is : (g : ℕ) → Within k g → T (possible_at (voters k) up (votes k Precommit) g)
      → ends_at g (ghost_from k.parents k.set.weights k.graph (still (scene_of k) k.set.total k.heard.precommit) g)
      ≡ all k.count (λ c. not (asked_child g c))
  stays_is g w p =
      let t : T (asks possible_question g) = subst T (sym (possible_is k f g)) p in
      let r = ghost_ends up (col k.ids) f.tabled.falls k.base k.count k.cast (view k.graph) f.shape (passes k.set.weights possible_question) (passes_mono k.set.weights possible_question) f.small g w.in_base (tabled_in g w) t in
      ap (λ (o : Option ℕ). ends_at g o) r.1
      ∙ same_test (eqb r.0 g) (all k.count (λ c. not (asked_child g c))) (there r.0 r.2) (back r.0 r.2)
    where
      there : (r : ℕ) → Ends possible_question g r → T (eqb r g) → T (all k.count (λ c. not (asked_child g c)))
      there r e h = all_intro _ k.count (λ c l. not_T (asked_child g c) (λ a.
          let b = right_of (child up g c) _ a in
          let n = at_node c (right_of (ltb c k.count) _ (left_of (with_node (voters k) (table k) (votes k Prevote) (votes k Precommit) c) _ b)) in
          e.childless c n.0 (subst (λ (z : ℕ). T (child up z c)) (sym (eqb→eq r g h)) (left_of (child up g c) _ a)) n.1 n.2
          (subst T (sym (possible_is k f c)) (right_of (with_node (voters k) (table k) (votes k Prevote) (votes k Precommit) c) _ b))))

      back : (r : ℕ) → Ends possible_question g r → T (all k.count (λ c. not (asked_child g c))) → T (eqb r g)
      back r e h = subst (λ (z : ℕ). T (eqb r z)) stay (eqb_refl r)
        where
          stay : r ≡ g
          stay = ghost_stays up (col k.ids) f.tabled.falls k.base k.count k.cast (view k.graph) f.shape (passes k.set.weights possible_question) (passes_mono k.set.weights possible_question) f.small g r e
              (λ c y ch u l q.
              let under = child_below up f.tabled.falls g c ch in
              let in_table : c < k.count = omega (arith, below_le up f.tabled.falls c y l, f.shape.nodes.tabled y u) in
              let j = f.only y u (λ z. omega (arith, below_le up f.tabled.falls k.base g w.in_base, below_le up f.tabled.falls g c under.0, under.1, below_le up f.tabled.falls c y l)) in
              T_not (asked_child g c) (all_at (λ c. not (asked_child g c)) k.count h c in_table)
              (both (child up g c) _ ch (both (with_node (voters k) (table k) (votes k Prevote) (votes k Precommit) c) _
              (both (ltb c k.count) _ (lt→ltb c k.count in_table) (of_voter j.0 y j.1 c l)) (subst T (possible_is k f c) q))))

  -- completable, once heard precommit weight reaches T
  pub settled_is : (g : ℕ) → Within k g
      → settled k.parents k.set.weights k.graph (still (scene_of k) k.set.total k.heard.precommit) g
      ((first_of up (possible_at (voters k) up (votes k Precommit)) k.base g))
      ≡ settled_at g (all k.count (λ c. not (child up g c && (with_node (voters k) (table k) (votes k Prevote) (votes k Precommit) c && possible_at (voters k) up (votes k Precommit) c))))
      (first_of up (possible_at (voters k) up (votes k Precommit)) k.base g)
  settled_is g w = go (first_of up (possible_at (voters k) up (votes k Precommit)) k.base g) (first_says up f.tabled.falls k.base (possible_at (voters k) up (votes k Precommit)) g w.in_base)
    where
      go : (o : Option ℕ) → Says (First up (possible_at (voters k) up (votes k Precommit)) k.base g) o
          → settled k.parents k.set.weights k.graph possible_question g o ≡ settled_at g (all k.count (λ c. not (asked_child g c))) o
      go None r = refl
      go (Some e) r = pick (ℕ_discrete e g)
        where
          pick : Dec (e ≡ g)
              → settled k.parents k.set.weights k.graph possible_question g (Some e) ≡ settled_at g (all k.count (λ c. not (asked_child g c))) (Some e)
          pick (yes q) = rw (eq-eqb e g q) (subst (λ (z : ℕ). ends_at g (ghost_from k.parents k.set.weights k.graph possible_question z) ≡ all k.count (λ c. not (asked_child g c))) (sym q)
              (stays_is g w (subst (λ (z : ℕ). T (possible_at (voters k) up (votes k Precommit) z)) q r.passes)))
          pick (no d) = rw (ne_eqb e g d)
