-- Targets that differ in place differ in id: the table is one, targets are in it, and its ids are distinct.
use mathlib.Core.Bool.{Bool, not, ◌||◌}
use mathlib.Core.List.{List}
use mathlib.Core.Path.{◌≡◌, refl, sym, ap, subst, ◌∙◌}
use mathlib.Core.Logic.{◌⊎◌, inl, inr}
use Prim.Native.Nat.{ℕ, zero, suc, ◌≤◌, ◌<◌}
use native.Mathlib.Decide.{ℕ_discrete}
use native.Mathlib.Omega.{arith}
use lib.Dec.{T, eqb, leb, leb→le}
use borrow.Author.Tests.{eq-eqb, ne_eqb}
use Rattle.sizes.specs.Sizes.{VOTERS, VOTES}
use Rattle.loops.proofs.Tests.{left_of, right_of, either}
use Rattle.loops.proofs.Alls.{all_at}
use Rattle.loops.proofs.Sums.{weigh_cong}
use Rattle.grandpa.specs.Vote.{Vote, silent, once, twice, equivocated}
use Rattle.grandpa.specs.Views.{differ, differ_from, two_views, targets_differ}
use Rattle.context.specs.declared.Phase.TheVariants.{Precommit}
use Rattle.context.specs.Votes.{bit}
use Rattle.context.proofs.Places.{bit_few}
use Rattle.graph.specs.Shape.{Targets}
use Rattle.blocks.specs.declared.BlockTable.{BlockTable}
use Rattle.voter_set.specs.Good.{good}
use Rattle.nodes.specs.Nodes.{col, flag}
use Rattle.tracker.specs.Recorded.{cast_of, cast}
use Rattle.vote_graph.specs.Shape.{is_graph}
use Rattle.vote_shape.specs.Voted.{tidy, targets_used, noded, voted}
use Rattle.round.specs.declared.Round.{Round}
use Rattle.round.specs.Shape.{frame, held, sized, tells_votes, shaped}
use Rattle.round.proofs.Steps.{graph_kept}
use Rattle.two_views.specs.Views.{voters, precommits, by_id}
use Rattle.two_views.specs.One.{One}
use Rattle.two_views.proofs.Rounds.{voters_good}

-- a target is used where the test of the targets passes
target_at : (used : ℕ → Bool) (n b x : ℕ) → T (leb n 0 || used b) → Targets (cast_of n b) x → T (used x)
target_at used zero b x h e = absurd e
target_at used (suc zero) b x h e = go (either (leb 1 0) (used b) h)
  where
    go : T (leb 1 0) ⊎ T (used b) → T (used x)
    go (inl l) = absurd (let q = leb→le 1 0 l in omega arith)
    go (inr u) = subst (λ (y : ℕ). T (used y)) e u
target_at used (suc (suc n)) b x h e = go (either (leb (suc (suc n)) 0) (used b) h)
  where
    go : T (leb (suc (suc n)) 0) ⊎ T (used b) → T (used x)
    go (inl l) = absurd (let q = leb→le (suc (suc n)) 0 l in omega arith)
    go (inr u) = subst (λ (y : ℕ). T (used y)) e u

module _ (r : Round) (t : T (shaped r)) where
  targets_tested : T (targets_used r.graph.used r.votes.counts r.votes.first_block)
  unfolding shaped tells_votes voted noded
  targets_tested =
      let a = right_of (is_graph r.graph r.table) _ t in
      let b = right_of (good r.context.voters) _ a in
      let c = right_of (sized (held r)) _ b in
      let d = left_of (tells_votes (frame r) (held r)) _ c in
      let e = right_of (tidy r.context.voters.count r.votes) _ d in
      let f = left_of (noded r.graph.base r.graph.used r.votes.counts r.votes.first_block) _ e in
      left_of (targets_used r.graph.used r.votes.counts r.votes.first_block) _ (right_of (flag r.graph.used r.graph.base) _ f)

  -- a recorded first target is in the table
  pub target_tabled : (j : ℕ) → j < VOTES → (x : ℕ) → Targets (cast r.votes j) x → x < r.table.count
  unfolding targets_used cast
  target_tabled j h x e =
      (graph_kept r t).sound.nodes.tabled x
      (target_at (flag r.graph.used) (col r.votes.counts j) (col r.votes.first_block j) x
      (all_at (λ i. leb (col r.votes.counts i) 0 || flag r.graph.used (col r.votes.first_block i)) VOTES targets_tested j h) e)

module _ (ids : List ℕ) (n : ℕ) (distinct : (s x : ℕ) → s < n → x < n → col ids s ≡ col ids x → s ≡ x) where
  place_by : (s x : ℕ) → s < n → x < n → eqb s x ≡ eqb (col ids s) (col ids x)
  place_by s x h l = go (ℕ_discrete s x)
    where
      go : Dec (s ≡ x) → eqb s x ≡ eqb (col ids s) (col ids x)
      go (yes e) = eq-eqb s x e ∙ sym (eq-eqb (col ids s) (col ids x) (ap (col ids) e))
      go (no e) = ne_eqb s x e ∙ sym (ne_eqb (col ids s) (col ids x) (λ q. e (distinct s x h l q)))

  from_by : (s : ℕ) (y : Vote) → s < n → ((z : ℕ) → Targets y z → z < n) → differ_from s y ≡ differ_from (col ids s) (by_id ids y)
  from_by s silent h g = refl
  from_by s (once x) h g = ap not (place_by s x h (g x refl))
  from_by s (twice x) h g = ap not (place_by s x h (g x refl))

  targets_by : (v y : Vote) → ((z : ℕ) → Targets v z → z < n) → ((z : ℕ) → Targets y z → z < n)
      → targets_differ v y ≡ targets_differ (by_id ids v) (by_id ids y)
  targets_by silent y f g = refl
  targets_by (once s) y f g = from_by s y (f s refl) g
  targets_by (twice s) y f g = from_by s y (f s refl) g

  equivocated_by : (v : Vote) → equivocated v ≡ equivocated (by_id ids v)
  equivocated_by silent = refl
  equivocated_by (once s) = refl
  equivocated_by (twice s) = refl

  pub differ_by : (v y : Vote) → ((z : ℕ) → Targets v z → z < n) → ((z : ℕ) → Targets y z → z < n)
      → differ v y ≡ differ (by_id ids v) (by_id ids y)
  differ_by v y f g = rw (equivocated_by v, equivocated_by y, targets_by v y f g)

-- the weight is that of the voters who equivocated in either view or whose targets differ in id
pub views_by_id : (a b : Round) → T (shaped a) → T (shaped b) → One a b
    → two_views (voters a) (precommits a) (precommits b)
    ≡ two_views (voters a) (λ p. by_id a.table.ids (precommits a p)) (λ p. by_id b.table.ids (precommits b p))
views_by_id a b s t o =
    subst (λ (y : BlockTable). two_views (voters a) (precommits a) (precommits b) ≡ two_views (voters a) (λ p. by_id a.table.ids (precommits a p)) (λ p. by_id y.ids (precommits b p)))
    o.table here
  where
    few : a.context.voters.count ≤ VOTERS
    few = (voters_good a s).few

    in_words : (p : ℕ) → p < a.context.voters.count → bit Precommit p < VOTES
    in_words p h = bit_few Precommit p (omega (arith, few))

    apart : (x y : ℕ) → x < a.table.count → y < a.table.count → col a.table.ids x ≡ col a.table.ids y → x ≡ y
    apart x y h k e =
        (graph_kept a s).table.distinct (col a.table.ids y) x y (record { inside = h; named = e }) (record { inside = k; named = refl })

    inside : (j : ℕ) → j < VOTES → (x : ℕ) → Targets (cast b.votes j) x → x < a.table.count
    inside j h x e = subst (λ (y : BlockTable). x < y.count) (sym o.table) (target_tabled b t j h x e)

    here : two_views (voters a) (precommits a) (precommits b)
        ≡ two_views (voters a) (λ p. by_id a.table.ids (precommits a p)) (λ p. by_id a.table.ids (precommits b p))
    here =
        weigh_cong a.context.voters.count (voters a).weight _ _
        (λ p h. differ_by a.table.ids a.table.count apart (precommits a p) (precommits b p)
        (target_tabled a s (bit Precommit p) (in_words p h)) (inside (bit Precommit p) (in_words p h)))
