-- A first vote and a second keep a round faithful, and votes come as they may.
use mathlib.Core.Bool.{Bool, true, false, cond, not, ◌||◌}
use mathlib.Core.Path.{◌≡◌, refl, sym, ap, subst, ◌∙◌}
use mathlib.Core.Logic.{◌≢◌}
use Prim.Native.Nat.{ℕ, ◌+◌, ◌≤◌, ◌<◌}
use native.Mathlib.Decide.{ℕ_discrete}
use native.Mathlib.Omega.{arith}
use lib.Dec.{T, eqb}
use lib.ListN.{get_or}
use borrow.Author.Tests.{eq-eqb, ne_eqb}
use Rattle.sizes.specs.Sizes.{VOTES}
use Rattle.loops.proofs.Tests.{or_false, in_left, by_test}
use Rattle.loops.proofs.Sums.{weigh_cong, weigh_put}
use Rattle.grandpa.specs.Tree.{below}
use Rattle.grandpa.specs.Vote.{Vote, silent, once, twice, heard, spoke, equivocated, lands}
use Rattle.grandpa.specs.Time.{Later, any_yet, the_same, a_second, no_third}
use Rattle.bitfield.specs.Bits.{has, put}
use Rattle.bitfield.proofs.Sets.{has_put, length_put}
use Rattle.context.specs.declared.Phase.{Phase}
use Rattle.context.specs.declared.Phase.TheVariants.{Prevote, Precommit}
use Rattle.context.specs.Votes.{offset, bit}
use Rattle.context.proofs.Places.{bit_one, bit_few}
use Rattle.graph.specs.Graph.{Graph, add_node, mark, insert}
use Rattle.graph.specs.Shape.{Shape, UsedOnly, Targets, with_vote}
use Rattle.graph.proofs.Inserts.{insert_keeps, shape_same, only_inserted, only_same}
use Rattle.nodes.specs.Nodes.{col, flag}
use Rattle.nodes.specs.Columns.{Sound, view}
use Rattle.vote_insert.proofs.Keeps.{view_insert}
use Rattle.answer_laws.specs.Faithful.{Setting, voters, votes, Faithful}
use Rattle.answer_laws.specs.Tells.{Follows, with_second, first_vote, second_vote}

-- one bit changed
module _ (cast : ℕ → Vote) (j : ℕ) (v : Vote) where
  abbrev pub changed : ℕ → Vote
  changed i = cond (eqb i j) v (cast i)

  changed_here : (i : ℕ) → i ≡ j → changed i ≡ v
  changed_here i e = ap (λ (b : Bool). cond b v (cast i)) (eq-eqb i j e)

  changed_other : (i : ℕ) → i ≢ j → changed i ≡ cast i
  changed_other i n = ap (λ (b : Bool). cond b v (cast i)) (ne_eqb i j n)

  changed_both : (P : ℕ → Vote → Type 0) → P j v → ((i : ℕ) → i ≢ j → P i (cast i)) → (i : ℕ) → P i (changed i)
  changed_both P h o i = go (ℕ_discrete i j)
    where
      go : Dec (i ≡ j) → P i (changed i)
      go (yes e) = subst (P i) (sym (changed_here i e)) (subst (λ (x : ℕ). P x v) (sym e) h)
      go (no n) = subst (P i) (sym (changed_other i n)) (o i n)

-- bits of other places and other phases are others
other_place : (a b : Phase) (p q : ℕ) → q ≢ p → bit a q ≢ bit b p
other_place a b p q n e = n (bit_one a b q p e).1

later_same : (x : Vote) → Later x x
later_same silent = any_yet silent
later_same (once t) = the_same t
later_same (twice t) = no_third t

module _ (k : Setting) (f : Faithful k) (phase : Phase) (p : ℕ) (in_set : p < k.set.count) where
  abbrev pub j : ℕ
  j = bit phase p

  few : j < VOTES
  few = bit_few phase p (omega (arith, f.good.few))

  -- the votes of another phase are as before
  pub other_phase : (v : Vote) (other : Phase) → offset other ≢ offset phase → (q : ℕ) → changed k.cast j v (bit other q) ≡ votes k other q
  other_phase v other n q = changed_other k.cast j v (bit other q) (λ e. n (ap (λ (x : Phase). offset x) (bit_one other phase q p e).0))

  heard_other : (v : Vote) (other : Phase) → offset other ≢ offset phase
      → heard (voters k) (λ q. changed k.cast j v (bit other q)) ≡ heard (voters k) (votes k other)
  heard_other v other n = weigh_cong k.set.count (voters k).weight _ _ (λ q h. ap (λ (x : Vote). spoke x) (other_phase v other n q))

  no_voter_changed : (v : Vote) (other : Phase) (q : ℕ) → k.set.count ≤ q → changed k.cast j v (bit other q) ≡ silent
  no_voter_changed v other q h =
      changed_other k.cast j v (bit other q) (other_place other phase p q (λ e. omega arith)) ∙ f.no_voter other q h

  -- a first vote
  module _ (t : ℕ) (quiet : votes k phase p ≡ silent) (sound : Sound k.parents k.ids k.base k.count k.graph)
      (in_base : T (below (col k.parents) k.base t)) (in_table : t < k.count)
      (apart : (y : ℕ) → T (flag k.graph.used y) → y ≢ t → col k.ids y ≢ col k.ids t) where
    viewed : view (first_vote k phase p t).graph ≡ insert (col k.parents) (col k.ids) t j (view k.graph)
    viewed = view_insert k.parents k.ids k.base k.count t in_base in_table k.graph sound apart j

    first_heard : heard (voters k) (votes (first_vote k phase p t) phase) ≡ heard (voters k) (votes k phase) + get_or k.set.weights p 0
    first_heard =
        weigh_put k.set.count (voters k).weight (λ q. spoke (votes k phase q)) (λ q. spoke (votes (first_vote k phase p t) phase q)) p in_set
        (subst (λ (v : Vote). T (not (spoke v))) (sym quiet) tt)
        (subst (λ (v : Vote). T (spoke v)) (sym (changed_here k.cast j (once t) j refl)) tt)
        (λ q n. ap (λ (v : Vote). spoke v) (sym (changed_other k.cast j (once t) (bit phase q) (other_place phase phase p q n))))

    first_doubled : (i : ℕ) → has k.equivocations i ≡ equivocated (with_vote k.cast j t i)
    first_doubled =
        changed_both k.cast j (once t) (λ i v. has k.equivocations i ≡ equivocated v)
        (f.doubled j ∙ ap (λ (v : Vote). equivocated v) quiet) (λ i n. f.doubled i)

    pub first_follows : Follows k (first_vote k phase p t).graph (first_vote k phase p t).cast
    first_follows =
        record {
          nodes_stay = λ x u. subst (λ (g : Graph). T (g.used x)) (sym viewed) (stays x u);
          later =
              changed_both k.cast j (once t) (λ i v. Later (k.cast i) v)
              (subst (λ (v : Vote). Later v (once t)) (sym quiet) (any_yet (once t))) (λ i n. later_same (k.cast i));
        }
      where
        stays : (x : ℕ) → T (flag k.graph.used x) → T ((insert (col k.parents) (col k.ids) t j (view k.graph)).used x)
        stays x u = unfold insert in unfold mark in
            by_test (λ (g : Graph). T (g.used x)) (flag k.graph.used t) (view k.graph) (add_node (col k.parents) (col k.ids) t (view k.graph))
            (λ h. u) (λ h. unfold add_node in in_left (flag k.graph.used x) (eqb x t) u)

-- which phase was heard
module _ (k : Setting) (f : Faithful k) (p : ℕ) (in_set : p < k.set.count) (t : ℕ) where
  first_heards : (phase : Phase) → (heard (voters k) (votes (first_vote k phase p t) phase) ≡ heard (voters k) (votes k phase) + get_or k.set.weights p 0)
      → ((first_vote k phase p t).heard.prevote ≡ heard (voters k) (votes (first_vote k phase p t) Prevote))
      × ((first_vote k phase p t).heard.precommit ≡ heard (voters k) (votes (first_vote k phase p t) Precommit))
  first_heards Prevote e = (
    omega (arith, e, f.prevotes_heard),
    f.precommits_heard ∙ sym (heard_other k f Prevote p in_set (once t) Precommit (λ q. omega arith)),
  )
  first_heards Precommit e = (
    f.prevotes_heard ∙ sym (heard_other k f Precommit p in_set (once t) Prevote (λ q. omega arith)),
    omega (arith, e, f.precommits_heard),
  )

module _ (k : Setting) (f : Faithful k) (phase : Phase) (p : ℕ) (in_set : p < k.set.count) (t : ℕ) where
  pub first_faithful : votes k phase p ≡ silent → Sound k.parents k.ids k.base k.count k.graph
      → T (below (col k.parents) k.base t) → t < k.count
      → ((y : ℕ) → T (flag k.graph.used y) → y ≢ t → col k.ids y ≢ col k.ids t)
      → Faithful (first_vote k phase p t)
  first_faithful quiet sound in_base in_table apart =
      let e = first_heards k f p in_set t phase (first_heard k f phase p in_set t quiet sound in_base in_table apart) in
      record {
        good = f.good;
        fits = f.fits;
        tabled = f.tabled;
        small = f.small;
        shape =
            subst (Shape (col k.parents) (col k.ids) k.base k.count (with_vote k.cast (bit phase p) t))
            (sym (viewed k f phase p in_set t quiet sound in_base in_table apart))
            (insert_keeps (col k.parents) (col k.ids) f.tabled.falls k.base k.count k.cast t in_base in_table (view k.graph) f.shape (bit phase p) (few k f phase p in_set) quiet apart);
        only =
            subst (λ (g : Graph). UsedOnly k.base (with_vote k.cast (bit phase p) t) g.used) (sym (viewed k f phase p in_set t quiet sound in_base in_table apart))
            (only_inserted k.base k.cast (view k.graph) f.only (col k.parents) (col k.ids) t (bit phase p) quiet);
        no_voter = no_voter_changed k f phase p in_set (once t);
        two_words = f.two_words;
        doubled = first_doubled k f phase p in_set t quiet sound in_base in_table apart;
        prevotes_heard = e.0;
        precommits_heard = e.1;
      }

  -- a second vote
  module _ (spoken : votes k phase p ≡ once t) where
    spoke_same : (i : ℕ) → spoke (k.cast i) ≡ spoke (with_second k.cast (bit phase p) t i)
    spoke_same =
        changed_both k.cast (bit phase p) (twice t) (λ i v. spoke (k.cast i) ≡ spoke v) (ap (λ (v : Vote). spoke v) spoken) (λ i n. refl)

    lands_same : (x i : ℕ) → lands (col k.parents) x (k.cast i) ≡ lands (col k.parents) x (with_second k.cast (bit phase p) t i)
    lands_same x =
        changed_both k.cast (bit phase p) (twice t) (λ i v. lands (col k.parents) x (k.cast i) ≡ lands (col k.parents) x v)
        (ap (lands (col k.parents) x) spoken) (λ i n. refl)

    to : (x i : ℕ) → Targets (k.cast i) x → Targets (with_second k.cast (bit phase p) t i) x
    to x =
        changed_both k.cast (bit phase p) (twice t) (λ i v. Targets (k.cast i) x → Targets v x)
        (λ h. subst (λ (v : Vote). Targets v x) spoken h) (λ i n h. h)

    fro : (x i : ℕ) → Targets (with_second k.cast (bit phase p) t i) x → Targets (k.cast i) x
    fro x =
        changed_both k.cast (bit phase p) (twice t) (λ i v. Targets v x → Targets (k.cast i) x)
        (λ h. subst (λ (v : Vote). Targets v x) (sym spoken) h) (λ i n h. h)

    second_doubled : (i : ℕ) → has (put k.equivocations (bit phase p)) i ≡ equivocated (with_second k.cast (bit phase p) t i)
    second_doubled i =
        has_put k.equivocations (bit phase p) i (rw f.two_words (few k f phase p in_set))
        ∙ changed_both k.cast (bit phase p) (twice t) (λ i v. (has k.equivocations i || eqb i (bit phase p)) ≡ equivocated v)
        (rw (eq-eqb (bit phase p) (bit phase p) refl) (or_true (has k.equivocations (bit phase p))))
        (λ i n. rw (ne_eqb i (bit phase p) n) (or_false (has k.equivocations i) ∙ f.doubled i)) i
      where
        or_true : (b : Bool) → (b || true) ≡ true
        or_true true = refl
        or_true false = refl

    pub second_faithful : Faithful (second_vote k phase p t)
    second_faithful =
        record {
          good = f.good;
          fits = f.fits;
          tabled = f.tabled;
          small = f.small;
          shape =
              shape_same (col k.parents) (col k.ids) k.base k.count k.cast (with_second k.cast (bit phase p) t) (view k.graph)
              (λ i x. lands_same x i) (λ i x. fro x i) f.shape;
          only = only_same k.base k.cast (view k.graph) f.only (with_second k.cast (bit phase p) t) (λ i x. to x i);
          no_voter = no_voter_changed k f phase p in_set (twice t);
          two_words = length_put k.equivocations (bit phase p) ∙ f.two_words;
          doubled = second_doubled;
          prevotes_heard = f.prevotes_heard ∙ weigh_cong k.set.count (voters k).weight _ _ (λ q h. spoke_same (bit Prevote q));
          precommits_heard = f.precommits_heard ∙ weigh_cong k.set.count (voters k).weight _ _ (λ q h. spoke_same (bit Precommit q));
        }

    pub second_follows : Follows k (second_vote k phase p t).graph (second_vote k phase p t).cast
    second_follows =
        record {
          nodes_stay = λ x u. u;
          later =
              changed_both k.cast (bit phase p) (twice t) (λ i v. Later (k.cast i) v)
              (subst (λ (v : Vote). Later v (twice t)) (sym spoken) (a_second t)) (λ i n. later_same (k.cast i));
        }
