-- Heard weight and the number of voters heard are those of the recorded votes.
use mathlib.Core.Bool.{Bool, cond}
use mathlib.Core.Path.{◌≡◌, refl, ap, ◌∙◌}
use Prim.Native.Nat.{ℕ, ◌+◌, ◌-◌}
use native.Mathlib.Omega.{arith}
use lib.Dec.{T}
use Rattle.sizes.specs.Sizes.{VOTERS}
use Rattle.loops.specs.Sum.{sum}
use Rattle.loops.proofs.Tests.{true_T}
use Rattle.loops.proofs.Sums.{sum_cong, sum_short}
use Rattle.grandpa.specs.Tree.{below}
use Rattle.grandpa.specs.Vote.{Vote, silent, once, twice, spoke, lands}
use Rattle.context.specs.declared.Phase.{Phase}
use Rattle.context.specs.declared.Phase.TheVariants.{Prevote, Precommit}
use Rattle.context.specs.Votes.{bit, voted, voters_heard_in}
use Rattle.graph.specs.Shape.{Targets}
use Rattle.nodes.specs.Nodes.{col, row}
use Rattle.vote_graph.specs.Shape.{columns}
use Rattle.answer_laws.specs.Faithful.{Faithful}
use Rattle.held_laws.specs.Kept.{setting, Kept}
use Rattle.held_laws.proofs.Parts.{kept_faithful}
use Rattle.round.specs.declared.Round.{Round}
use Rattle.round.specs.Shape.{frame, held, shaped}
use Rattle.round.specs.Ask.{heard_in, prevote_participation, precommit_participation}
use Rattle.round_laws.specs.Fits.{Fits}
use Rattle.round_laws.specs.Later.{votes_of}
use Rattle.round_laws.proofs.Shaped.{shaped_kept}
use Rattle.demands.specs.First.{Keeps, heard_weight, heard_voters}
use Rattle.std.specs.Prelude.{Ok}

-- every first target is at or below the base
lands_spoke : (up : ℕ → ℕ) (base : ℕ) (v : Vote) → ((x : ℕ) → Targets v x → T (below up base x)) → lands up base v ≡ spoke v
lands_spoke up base silent f = refl
lands_spoke up base (once x) f = true_T _ (f x refl)
lands_spoke up base (twice x) f = true_T _ (f x refl)

module _ (r : Round) (fits : Fits r) (t : Keeps r) where
  kept : Kept (frame r) (held r)
  kept = shaped_kept r fits t

  faith : Faithful (setting (frame r) (held r))
  faith = kept_faithful (frame r) (held r) kept

  root_voted : (phase : Phase) (p : ℕ) → voted (row (columns r.graph).rows r.graph.base) phase p ≡ spoke (votes_of r phase p)
  unfolding voted
  root_voted phase p =
      faith.shape.rows.told r.graph.base faith.shape.nodes.base_used (bit phase p)
      ∙ lands_spoke (col r.table.parents) r.graph.base (votes_of r phase p)
      (λ x h. faith.shape.nodes.inside x (faith.shape.voted.target_used (bit phase p) x h))

  counted : (phase : Phase) → heard_in r.graph phase ≡ heard_voters r phase
  unfolding heard_in voters_heard_in
  counted phase =
      let e : VOTERS ≡ r.context.voters.count + (VOTERS - r.context.voters.count) = omega (arith, kept.good.few) in
      sum_cong VOTERS (λ p. cond (voted (row (columns r.graph).rows r.graph.base) phase p) 1 0) (λ p. cond (spoke (votes_of r phase p)) 1 0)
      (λ p h. ap (λ (b : Bool). cond b 1 0) (root_voted phase p))
      ∙ ap (λ (n : ℕ). sum n (λ p. cond (spoke (votes_of r phase p)) 1 0)) e
      ∙ sum_short r.context.voters.count (VOTERS - r.context.voters.count) (λ p. cond (spoke (votes_of r phase p)) 1 0)
      (λ p h. ap (λ (v : Vote). cond (spoke v) 1 0) (faith.no_voter phase p h))

  pub prevotes_counted : prevote_participation r ≡ Ok ((heard_weight r Prevote), (heard_voters r Prevote))
  unfolding prevote_participation
  prevotes_counted = rw (true_T (shaped r) t, kept.prevotes_heard, counted Prevote)

  pub precommits_counted : precommit_participation r ≡ Ok ((heard_weight r Precommit), (heard_voters r Precommit))
  unfolding precommit_participation
  precommits_counted = rw (true_T (shaped r) t, kept.precommits_heard, counted Precommit)
