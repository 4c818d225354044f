-- The questions that the searches ask of joined bits are the definitions' of recorded votes.
use mathlib.Core.Bool.{Bool, true, false, ◌||◌}
use mathlib.Core.List.{List}
use mathlib.Core.Path.{◌≡◌, refl, ap, ◌∙◌}
use Prim.Native.Nat.{ℕ}
use Rattle.loops.proofs.Tests.{or_false}
use Rattle.loops.proofs.Sums.{weigh_cong}
use Rattle.grandpa.specs.Weight.{threshold}
use Rattle.grandpa.specs.Tree.{below}
use Rattle.grandpa.specs.Vote as meant
use Rattle.grandpa.specs.Vote.{Vote, silent, once, twice, total, equivocated, backs, lands, equivocators, phase_weight}
use Rattle.grandpa.specs.Possible.{possible_at}
use Rattle.grandpa.proofs.Numbers.{possible_asked}
use Rattle.voter_laws.proofs.Goods.{total_used}
use Rattle.context.specs.declared.Phase.{Phase}
use Rattle.context.specs.declared.Phase.TheVariants.{Precommit}
use Rattle.context.specs.Votes.{bit, voted, weight_of}
use Rattle.context.proofs.Contexts.{weight_good}
use Rattle.graph.specs.Graph.{tally}
use Rattle.graph.proofs.Tallies.{tally_told}
use Rattle.nodes.specs.Nodes.{col, passes}
use Rattle.nodes.specs.Columns.{view}
use Rattle.answers.specs.Update.{weighty, still}
use Rattle.answer_laws.specs.Faithful.{Setting, voters, votes, scene_of, Faithful}

-- who landed at or below a block or equivocated backs it
backs_is : (up : ℕ → ℕ) (b : ℕ) (x : Vote) → (lands up b x || equivocated x) ≡ backs up b x
backs_is up b silent = refl
backs_is up b (once t) = or_false (below up b t)
backs_is up b (twice t) = go (below up b t)
  where
    go : (z : Bool) → (z || true) ≡ true
    go true = refl
    go false = refl

module _ (k : Setting) (f : Faithful k) where
  abbrev bits : ℕ → List ℕ
  bits b = tally (col k.parents) (view k.graph) b

  pub total_is : k.set.total ≡ total (voters k)
  total_is = total_used k.set f.good

  pub threshold_is : k.set.threshold ≡ threshold (total (voters k))
  threshold_is = f.good.threshold_is ∙ ap (λ (n : ℕ). threshold n) total_is

  counted : (phase : Phase) (b p : ℕ) → (voted (bits b) phase p || voted k.equivocations phase p) ≡ backs (col k.parents) b (votes k phase p)
  unfolding voted
  counted phase b p =
      rw (tally_told (col k.parents) (col k.ids) f.tabled.falls k.base k.count k.cast (view k.graph) f.shape b (bit phase p), f.doubled (bit phase p))
      (backs_is (col k.parents) b (k.cast (bit phase p)))

  -- the weight of a block's joined bits, the equivocators' with them, is its phase weight
  pub weight_is : (phase : Phase) (b : ℕ)
      → weight_of k.set.weights (λ p. voted (bits b) phase p || voted k.equivocations phase p) ≡ phase_weight (voters k) (col k.parents) (votes k phase) b
  weight_is phase b = weight_good k.set f.good f.fits _ ∙ weigh_cong k.set.count _ _ _ (λ p h. counted phase b p)

  equivocated_is : (phase : Phase) (p : ℕ) → voted k.equivocations phase p ≡ equivocated (votes k phase p)
  unfolding voted
  equivocated_is phase p = f.doubled (bit phase p)

  pub equivocators_are : (phase : Phase) → weight_of k.set.weights (voted k.equivocations phase) ≡ equivocators (voters k) (votes k phase)
  equivocators_are phase = weight_good k.set f.good f.fits _ ∙ weigh_cong k.set.count _ _ _ (λ p h. equivocated_is phase p)

  -- phase weight of T or more
  pub weighty_is : (phase : Phase) (b : ℕ)
      → passes k.set.weights (weighty (scene_of k) phase) (bits b) ≡ meant.weighty (voters k) (col k.parents) (votes k phase) b
  unfolding passes
  weighty_is phase b = rw (weight_is phase b, threshold_is)

  -- still possible
  pub possible_is : (b : ℕ)
      → passes k.set.weights (still (scene_of k) k.set.total k.heard.precommit) (bits b)
      ≡ possible_at (voters k) (col k.parents) (votes k Precommit) b
  unfolding passes
  possible_is b =
      rw (weight_is Precommit b, equivocators_are Precommit, threshold_is, total_is, f.precommits_heard)
      (possible_asked (total (voters k)) _ _ _)
