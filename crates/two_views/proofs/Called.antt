-- What the call answers, by what the two rounds are.
use mathlib.Core.Bool.{cond}
use mathlib.Core.Path.{◌≡◌, ap}
use lib.Dec.{T}
use Rattle.loops.proofs.Tests.{true_T, false_not, dec_T}
use Rattle.grandpa.specs.Views.{two_views}
use Rattle.round.specs.declared.Round.{Round}
use Rattle.round.specs.Shape.{shaped}
use Rattle.two_views.specs.Views.{agree, voters, precommits, by_id, views}
use Rattle.two_views.specs.One.{One}
use Rattle.two_views.proofs.Agreements.{agree_means, means_agree}
use Rattle.two_views.proofs.Named.{views_by_id}
use Rattle.std.specs.Prelude.{Ok, Err}
use Rattle.refusals.specs.declared.Refusal.TheVariants.{Misshapen, UnlikeViews}

module _ (a b : Round) where
  -- two views of one round: the weight of the voters who equivocated in precommits in either, or whose targets differ in id
  pub views_told : T (shaped a) → T (shaped b) → One a b
      → views a b ≡ Ok (two_views (voters a) (λ p. by_id a.table.ids (precommits a p)) (λ p. by_id b.table.ids (precommits b p)))
  unfolding views
  views_told s t o = rw (true_T (shaped a) s, true_T (shaped b) t, true_T (agree a b) (means_agree a b o)) (ap Ok (views_by_id a b s t o))

  -- rounds that differ in number, base, voters or table
  pub views_unlike : T (shaped a) → T (shaped b) → (One a b → ⊥) → views a b ≡ Err UnlikeViews
  unfolding views
  views_unlike s t n = rw (true_T (shaped a) s, true_T (shaped b) t, false_not (agree a b) (λ q. n (agree_means a b q)))

  -- either breaks the shape rules
  pub views_misshaped : (T (shaped a) → T (shaped b) → ⊥) → views a b ≡ Err Misshapen
  unfolding views
  views_misshaped n = go (dec_T (shaped a)) (dec_T (shaped b))
    where
      go : Dec (T (shaped a)) → Dec (T (shaped b))
          → cond (shaped a) (cond (shaped b) (cond (agree a b) (Ok (two_views (voters a) (precommits a) (precommits b))) (Err UnlikeViews)) (Err Misshapen)) (Err Misshapen)
          ≡ Err Misshapen
      go (yes s) (yes t) = absurd (n s t)
      go (yes s) (no t) = rw (true_T (shaped a) s, false_not (shaped b) t)
      go (no s) d = rw (false_not (shaped a) s)
