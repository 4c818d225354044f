-- Document 02, R-3: what is told as final has precommit weight T or more now, whoever equivocated; so two such blocks that do not lie on one
-- line have voters of more than F between the views.
use mathlib.Core.Path.{◌≡◌, refl, sym, ap, subst, ◌∙◌}
use Prim.Native.Nat.{ℕ, pred, ◌≤◌, ◌<◌}
use native.Mathlib.Decide.{ℕ_discrete}
use native.Mathlib.Omega.{arith}
use lib.Dec.{T, leb→le}
use lib.ListN.{get_or}
use Rattle.loops.proofs.Tests.{true_T, dec_T}
use Rattle.grandpa.specs.Weight.{fault, threshold}
use Rattle.grandpa.specs.Tree.{Blocks}
use Rattle.grandpa.specs.Vote.{Vote, Voters, total, phase_weight}
use Rattle.grandpa.specs.Views.{two_views}
use Rattle.grandpa.specs.Answers.{Says, Told, told_from, Finalized}
use Rattle.grandpa.specs.Time as time
use Rattle.grandpa.proofs.Answers.{finalized_says}
use Rattle.grandpa.proofs.Views.{two_views_le}
use Rattle.grandpa.proofs.Makers as grandpa
use Rattle.voter_set.specs.declared.VoterSet.{VoterSet}
use Rattle.blocks.specs.declared.BlockTable.{BlockTable}
use Rattle.blocks.specs.Table.{Stands}
use Rattle.context.specs.declared.Phase.TheVariants.{Prevote, Precommit}
use Rattle.nodes.specs.Nodes.{col}
use Rattle.round.specs.declared.Round.{Round}
use Rattle.round.specs.Shape.{shaped}
use Rattle.round.specs.Ask as ask
use Rattle.round_laws.specs.Later.{Reached, voters_of, blocks_of, votes_of, answers_of}
use Rattle.two_views.specs.Views.{agree, views}
use Rattle.two_views.specs.One.{One}
use Rattle.two_views.proofs.Agreements.{agree_means, means_agree}
use Rattle.two_views.proofs.Called.{views_unlike}
use Rattle.demands.specs.Second.{Weighs, shown}
use Rattle.demands.specs.Makers.{FinalsApart, Makers}
use Rattle.demands.proofs.Asking.{no_number}
use Rattle.demands.proofs.Shown.{finalized_shown}
use Rattle.demands.proofs.Meant.{keeps, kept, whole}
use Rattle.demands.proofs.Lasting.{silent, told_by, In, seat_in}
use Rattle.std.specs.Prelude.{Option, Some, None, Result, Ok, Err}
use Rattle.refusals.specs.declared.Refusal.{Refusal}

no_block : {id n : ℕ} → ◌≡◌ {A = Result (Option (ℕ × ℕ)) Refusal} (Ok None) (Ok (Some (id, n))) → ⊥
no_block e = let z : ◌≡◌ {A = ℕ} 0 1 = cc in omega arith

abbrev id_of : Result (Option (ℕ × ℕ)) Refusal → ℕ
id_of (Ok (Some (id, n))) = id
id_of (Ok None) = 0
id_of (Err e) = 0

block_id : {id n i m : ℕ} → ◌≡◌ {A = Result (Option (ℕ × ℕ)) Refusal} (Ok (Some (id, n))) (Ok (Some (i, m))) → id ≡ i
block_id e = ap id_of e

no_weight : {e : Refusal} {k : ℕ} → ◌≡◌ {A = Result ℕ Refusal} (Err e) (Ok k) → ⊥
no_weight q = let z : ◌≡◌ {A = ℕ} 0 1 = cc in omega arith

weight_is : {n k : ℕ} → ◌≡◌ {A = Result ℕ Refusal} (Ok n) (Ok k) → n ≡ k
weight_is e = cc

-- what is told as final from any GHOST has weight T or more
told_weight : (vs : Voters) (t : Blocks) → ((k : ℕ) → t.up k ≤ pred k) → (base : ℕ) (pv pc : ℕ → Vote) (x : ℕ) (o : Option ℕ)
    → time.Stored t base o → (told_from vs t base pv pc o).finalized ≡ Some x → threshold (total vs) ≤ phase_weight vs t.up pc x
unfolding told_from
told_weight vs t falls base pv pc x None s e = absurd (no_number e)
told_weight vs t falls base pv pc x (Some g) s e =
    let f : Finalized vs t.up base pc g x =
    subst (Says (Finalized vs t.up base pc g)) e (finalized_says vs t.up falls base pc g s.1) in
    leb→le _ _ f.first.passes

-- the place of a block that `finalized` tells
module _ (r : Round) (reached : Reached r) (id n : ℕ) (final : ask.finalized r ≡ Ok (Some (id, n))) where
  final_at : (x : ℕ) × ((answers_of r).finalized ≡ Some x)
  final_at = go (answers_of r).finalized refl
    where
      go : (o : Option ℕ) → (answers_of r).finalized ≡ o → (x : ℕ) × ((answers_of r).finalized ≡ Some x)
      go None q = absurd (no_block (sym (finalized_shown r (keeps r reached) ∙ ap (shown r) q) ∙ final))
      go (Some x) q = (x, q)

  pub place : ℕ
  place = final_at.0

  stored : (answers_of r).finalized ≡ Some place
  unfolding place
  stored = final_at.1

  pub final_stands : Stands r.table id place
  final_stands =
      record {
        inside = subst (In r.table.count) stored (seat_in _ _ _ r.answers.finalized (kept r reached).seated.finalized);
        named = block_id (sym (finalized_shown r (keeps r reached) ∙ ap (shown r) stored) ∙ final);
      }

  -- an empty set takes no vote
  pub final_weighs : Weighs r
  final_weighs = go (ℕ_discrete r.context.voters.total 0)
    where
      go : Dec (r.context.voters.total ≡ 0) → Weighs r
      go (yes e) = absurd (no_number (sym (ap (λ (z : Told). z.finalized) (silent r reached e)) ∙ stored))
      go (no m) = omega arith

  -- weight T or more now, whoever equivocated
  pub final_weight : threshold (total (voters_of r)) ≤ phase_weight (voters_of r) (blocks_of r).up (votes_of r Precommit) place
  final_weight =
      let t = told_by r reached final_weighs in
      told_weight (voters_of r) (blocks_of r) (kept r reached).table.tree.falls r.graph.base (votes_of r Prevote) (votes_of r Precommit) place t.0
      t.2 (sym (ap (λ (z : Told). z.finalized) t.1) ∙ stored)

-- two views of one round
module _ (a b : Round) (reached : Reached a) (reached_other : Reached b) (n : ℕ) (sums : views a b ≡ Ok n) where
  one : One a b
  one = go (dec_T (agree a b))
    where
      go : Dec (T (agree a b)) → One a b
      go (yes t) = agree_means a b t
      go (no f) = absurd (no_weight (sym (views_unlike a b (keeps a reached) (keeps b reached_other) (λ o. f (means_agree a b o))) ∙ sums))

  sum_told : views a b ≡ Ok (two_views (voters_of a) (votes_of a Precommit) (votes_of b Precommit))
  unfolding views
  sum_told = rw (true_T (shaped a) (keeps a reached), true_T (shaped b) (keeps b reached_other), true_T (agree a b) (means_agree a b one))

  sum_is : two_views (voters_of a) (votes_of a Precommit) (votes_of b Precommit) ≡ n
  sum_is = weight_is (sym sum_told ∙ sums)

  pub sum_le : n ≤ a.context.voters.total
  sum_le = omega (arith, sum_is, two_views_le (voters_of a) (votes_of a Precommit) (votes_of b Precommit), whole a reached)

abbrev voters_in : VoterSet → Voters
voters_in v = record { size = v.count; weight = λ p. get_or v.weights p 0 }

two_finals : (a b : Round) (apart : FinalsApart a b) → fault a.context.voters.total < apart.sum
two_finals a b apart =
    omega (
      arith,
      whole a apart.reached,
      sum_is a b apart.reached apart.reached_other apart.sum apart.sums,
      grandpa.makers (voters_of a) (blocks_of a).up (kept a apart.reached).table.tree.falls weighs (votes_of a Precommit) (votes_of b Precommit) x y
          (λ l. apart.not_below (record {
            id = _;
            number = _;
            is_upper = apart.final;
            id_below = _;
            number_below = _;
            is_lower = apart.final_other;
            place = x;
            place_below = y;
            stands = here;
            stands_below = there;
            under = l;
          }))
          (λ l. apart.not_above (record {
            id = _;
            number = _;
            is_upper = apart.final_other;
            id_below = _;
            number_below = _;
            is_lower = apart.final;
            place = y;
            place_below = x;
            stands = there;
            stands_below = here;
            under = l;
          }))
          (final_weight a apart.reached apart.id apart.number apart.final) weight_there,
    )
  where
    x : ℕ
    x = place a apart.reached apart.id apart.number apart.final

    y : ℕ
    y = place b apart.reached_other apart.id_other apart.number_other apart.final_other

    same : One a b
    same = one a b apart.reached apart.reached_other apart.sum apart.sums

    weighs : 0 < total (voters_of a)
    weighs = omega (arith, whole a apart.reached, final_weighs a apart.reached apart.id apart.number apart.final)

    here : Stands a.table apart.id x
    here = final_stands a apart.reached apart.id apart.number apart.final

    there : Stands a.table apart.id_other y
    there =
        subst (λ (t : BlockTable). Stands t apart.id_other y) (sym same.table)
        (final_stands b apart.reached_other apart.id_other apart.number_other apart.final_other)

    weight_there : threshold (total (voters_of a)) ≤ phase_weight (voters_of a) (blocks_of a).up (votes_of b Precommit) y
    weight_there =
        subst (λ (t : BlockTable). threshold (total (voters_of a)) ≤ phase_weight (voters_of a) (col t.parents) (votes_of b Precommit) y) (sym same.table)
        (subst (λ (v : VoterSet). threshold (total (voters_in v)) ≤ phase_weight (voters_in v) (blocks_of b).up (votes_of b Precommit) y)
        (sym same.voters)
        (final_weight b apart.reached_other apart.id_other apart.number_other apart.final_other))

pub makers : Makers
makers = two_finals
