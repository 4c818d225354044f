-- What is stored keeps telling the four answers through imports.
use mathlib.Core.Bool.{false}
use mathlib.Core.List.{List}
use mathlib.Core.Path.{◌≡◌, refl, sym, ap, subst, fun_ext, ◌∙◌}
use mathlib.Core.Logic.{◌≢◌, ◌⊎◌, inl, inr}
use Prim.Native.Nat.{ℕ, ◌≤◌, ◌<◌}
use native.Mathlib.Omega.{arith}
use lib.Dec.{T, leb→le}
use borrow.Author.Tests.{lt-leb}
use Rattle.loops.proofs.Tests.{le_or_lt}
use Rattle.grandpa.specs.Weight.{fault, threshold}
use Rattle.grandpa.specs.Tree.{below}
use Rattle.grandpa.specs.Vote as meant
use Rattle.grandpa.specs.Vote.{Vote, total, equivocators}
use Rattle.grandpa.specs.Answers.{ghost_of, finalized_of, completable_of, Told, told_from}
use Rattle.grandpa.specs.Time.{VotesLater, Down}
use Rattle.grandpa.proofs.Votes.{heard_grows, weighty_stays, weight_heard}
use Rattle.context.specs.declared.Phase.{Phase}
use Rattle.context.specs.declared.Phase.TheVariants.{Prevote, Precommit}
use Rattle.context.specs.Votes.{bit}
use Rattle.nodes.specs.Nodes.{col}
use Rattle.nodes.specs.Columns.{Columns}
use Rattle.answers.specs.declared.Answers.{Answers}
use Rattle.answers.specs.declared.Heard.{Heard}
use Rattle.answers.specs.Update.{start_of, phase_ghost, with_prevote, update, told_after}
use Rattle.answers.proofs.Steps.{phase_stays, update_early}
use Rattle.answer_laws.specs.Faithful.{Setting, table, voters, votes, scene_of, Faithful, AllWithin, FoundWithin, Untold, stored}
use Rattle.answer_laws.specs.Tells.{Heavy, Tells, after, Follows}
use Rattle.answer_laws.proofs.Weighed.{threshold_is}
use Rattle.answer_laws.proofs.Telling.{update_told}
use Rattle.answer_laws.proofs.Ghosted.{base_heavy, ghost_goes, settles_meant}
use Rattle.std.specs.Prelude.{Option, Some, None}

-- what is told of o
module _ (k : Setting) where
  abbrev pub told_of : Option ℕ → Told
  told_of o = told_from (voters k) (table k) k.base (votes k Prevote) (votes k Precommit) o

  told_ghost : (o : Option ℕ) → (told_of o).ghost ≡ o
  unfolding told_from
  told_ghost None = refl
  told_ghost (Some g) = refl

  told_none : (o : Option ℕ) → o ≡ None → ((told_of o).finalized ≡ None) × ((told_of o).estimate ≡ None) × ((told_of o).completable ≡ false)
  unfolding told_from
  told_none None e = (refl, refl, refl)
  told_none (Some g) e = absurd (let z : ◌≡◌ {A = ℕ} 0 1 = cc in omega arith)

  told_early : (o : Option ℕ) → meant.heard (voters k) (votes k Precommit) < threshold (total (voters k))
      → ((told_of o).finalized ≡ None) × ((told_of o).completable ≡ false)
  unfolding told_from finalized_of completable_of
  told_early None h = (refl, refl)
  told_early (Some g) h =
      let e = lt-leb (threshold (total (voters k))) (meant.heard (voters k) (votes k Precommit)) h in
      (rw e, rw e)

  -- a block of weight T or more is stored only once heard weight reaches T
  heavy_heard : (o : Option ℕ) → Heavy k o → meant.heard (voters k) (votes k Prevote) < threshold (total (voters k)) → o ≡ None
  heavy_heard None w h = refl
  heavy_heard (Some g) w h =
      absurd (omega (arith, leb→le (threshold (total (voters k))) (meant.phase_weight (voters k) (col k.parents) (votes k Prevote) g) w, weight_heard (voters k) (col k.parents) (votes k Prevote) g))

  pub tells_ghost : (o : Option ℕ) (a : Answers) → Tells k o a → a.prevote ≡ o
  tells_ghost o a t = ap (λ (x : Answers). x.prevote) t.told ∙ (told_ghost o)

-- the stored precommit-GHOST is whatever is stored
again : (a : Answers) (p : Option ℕ) (x : Told) → a ≡ stored p x → a ≡ stored a.precommit x
again a p x e = e ∙ ap (λ (q : Option ℕ). stored q x) (sym (ap (λ (y : Answers). y.precommit) e))

some_none : (g : ℕ) → ◌≡◌ {A = Option ℕ} (Some g) None → ⊥
some_none g e = let z : ◌≡◌ {A = ℕ} 0 1 = cc in omega arith

module _ (k : Setting) (graph : Columns) (equivocations : List ℕ) (heard : Heard) (cast : ℕ → Vote) where
  abbrev next : Setting
  next = after k graph equivocations heard cast

  none_same : told_of k None ≡ told_of next None
  unfolding told_from
  none_same = refl

  no_ghost : meant.heard (voters next) (votes next Prevote) < threshold (total (voters next)) → None ≡ ghost_of (voters next) (table next) (votes next Prevote)
  unfolding ghost_of
  no_ghost h = rw (lt-leb (threshold (total (voters next))) (meant.heard (voters next) (votes next Prevote)) h)

  module _ (f : Faithful (after k graph equivocations heard cast)) (n : Follows k graph cast) (o : Option ℕ) (a : Answers) (t : Tells k o a) where
    later : (phase : Phase) → VotesLater (voters k) (votes k phase) (votes next phase)
    later phase i h = n.later (bit phase i)

    within_next : (o : Option ℕ) → AllWithin k o → AllWithin next o
    within_next None w = tt
    within_next (Some g) w = record { in_base = w.in_base; node = w.node; is_node = n.nodes_stay w.node w.is_node; under = w.under }

    heavy_next : (o : Option ℕ) → Heavy k o → Heavy next o
    heavy_next None w = tt
    heavy_next (Some g) w = weighty_stays (voters k) (votes k Prevote) (votes next Prevote) (later Prevote) (col k.parents) g w

    found_within : (o : Option ℕ) → AllWithin next o → FoundWithin next o
    found_within None w = tt
    found_within (Some g) w = w

    early : heard.precommit < k.set.threshold → (a.finalized ≡ None) × (a.completable ≡ false)
    early h =
        let e = told_early k o (omega (arith, threshold_is next f, f.precommits_heard, heard_grows (voters k) (votes k Precommit) (votes next Precommit) (later Precommit))) in
        (ap (λ (x : Answers). x.finalized) t.told ∙ e.0, ap (λ (x : Answers). x.completable) t.told ∙ e.1)

    before : o ≡ None → (a.finalized ≡ None) × (a.estimate ≡ None) × (a.completable ≡ false)
    before q =
        let e = told_none k o q in (
          ap (λ (x : Answers). x.finalized) t.told ∙ e.0,
          ap (λ (x : Answers). x.estimate) t.told ∙ e.1,
          ap (λ (x : Answers). x.completable) t.told ∙ e.2,
        )

    untold : (r : Option ℕ) (g : Option ℕ) → g ≡ r → (r ≡ None → o ≡ None) → Untold next r (with_prevote a g)
    untold r g e back = record { ghost_is = e; early = early; before = λ q. before (back q) }

    -- while heard prevote weight is below T nothing is stored
    module _ (h : heard.prevote < k.set.threshold) where
      less : meant.heard (voters next) (votes next Prevote) < threshold (total (voters next))
      less = omega (arith, threshold_is next f, f.prevotes_heard)

      nothing_yet : o ≡ None
      nothing_yet =
          heavy_heard k o t.heavy (omega (arith, less, heard_grows (voters k) (votes k Prevote) (votes next Prevote) (later Prevote)))

      quiet : Tells next None a
      quiet =
          record {
            within = tt;
            heavy = tt;
            found = λ l. absurd (omega (arith, less));
            meant = λ p q. no_ghost less;
            told = t.told ∙ ap (stored a.precommit) (ap (told_of k) nothing_yet ∙ none_same);
          }

    -- a prevote import: the GHOST that is stored is the one before or a descendant
    pub prevote_tells : (r : Option ℕ) × Down (col k.parents) o r
        × Tells (after k graph equivocations heard cast) r (told_after (scene_of (after k graph equivocations heard cast)) k.set.total heard Prevote a)
    prevote_tells = go (le_or_lt k.set.threshold heard.prevote)
      where
        start_heavy : (o : Option ℕ) → k.set.threshold ≤ heard.prevote → Heavy next o
            → T (meant.weighty (voters next) (col k.parents) (votes next Prevote) (start_of o k.base))
        start_heavy None h w = base_heavy next f Prevote h
        start_heavy (Some g) h w = w

        down : (o : Option ℕ) (r : ℕ) → T (below (col k.parents) (start_of o k.base) r) → Down (col k.parents) o (Some r)
        down None r l = tt
        down (Some g) r l = l

        go : (k.set.threshold ≤ heard.prevote) ⊎ (heard.prevote < k.set.threshold)
            → (r : Option ℕ) × Down (col k.parents) o r × Tells next r (told_after (scene_of next) k.set.total heard Prevote a)
        go (inr h) = (
          None,
          subst (λ (x : Option ℕ). Down (col k.parents) x None) (sym (nothing_yet h)) tt,
          subst (Tells next None)
              (update_early (scene_of next) k.set.total heard a h
              ∙ ap (λ (g : Option ℕ). update (scene_of next) k.set.total heard (with_prevote a g)) (phase_stays (scene_of next) Prevote heard.prevote a.prevote h))
              (quiet h),
        )
        go (inl h) =
            let w = found_within o (within_next o t.within) in
            let r = ghost_goes next f Prevote o w h (start_heavy o h (heavy_next o t.heavy)) in
            let e : phase_ghost (scene_of next) Prevote heard.prevote a.prevote ≡ Some r.0
            = ap (phase_ghost (scene_of next) Prevote heard.prevote) (tells_ghost k o a t) ∙ r.1 in (
              Some r.0,
              down o r.0 r.2.lower,
              record {
                within = r.2.within;
                heavy = r.2.enough;
                found = λ l. some_none r.0;
                meant = λ p q. sym (settles_meant next f Prevote p q h (start_of o k.base) r.0 r.2);
                told =
                    again _ a.precommit (told_of next (Some r.0))
                    (update_told next f (with_prevote a (phase_ghost (scene_of next) Prevote heard.prevote a.prevote)) (Some r.0) r.2.within
                    (untold (Some r.0) _ e (λ q. absurd (some_none r.0 q))) h);
              },
            )

    -- a precommit import: the GHOST stays
    pub precommit_tells : ((p : ℕ) → cast (bit Prevote p) ≡ k.cast (bit Prevote p))
        → Tells (after k graph equivocations heard cast) o (told_after (scene_of (after k graph equivocations heard cast)) k.set.total heard Precommit a)
    precommit_tells same = go (le_or_lt k.set.threshold heard.prevote)
      where
        go : (k.set.threshold ≤ heard.prevote) ⊎ (heard.prevote < k.set.threshold)
            → Tells next o (update (scene_of next) k.set.total heard a)
        go (inr h) =
            subst (λ (x : Option ℕ). Tells next x (update (scene_of next) k.set.total heard a)) (sym (nothing_yet h))
            (subst (Tells next None) (update_early (scene_of next) k.set.total heard a h) (quiet h))
        go (inl h) =
            record {
              within = within_next o t.within;
              heavy = heavy_next o t.heavy;
              found = subst (λ (v : ℕ → Vote). threshold (total (voters k)) ≤ meant.heard (voters k) v → o ≢ None) (sym (fun_ext same)) t.found;
              meant = subst
                  (λ (v : ℕ → Vote). 0 < total (voters k) → equivocators (voters k) v ≤ fault (total (voters k)) → o ≡ ghost_of (voters k) (table k) v)
                  (sym (fun_ext same)) t.meant;
              told =
                  again _ a.precommit (told_of next o)
                  (update_told next f a o (within_next o t.within) (untold o a.prevote (tells_ghost k o a t) (λ q. q)) h);
            }
