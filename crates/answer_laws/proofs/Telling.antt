-- `update` stores the four answers that the definitions give for the stored prevote-GHOST.
use mathlib.Core.Bool.{Bool, true, false}
use mathlib.Core.Path.{◌≡◌, refl, sym, ◌∙◌}
use mathlib.Core.Logic.{◌⊎◌, inl, inr}
use Prim.Native.Nat.{ℕ, ◌≤◌, ◌<◌}
use native.Mathlib.Omega.{arith}
use lib.Dec.{leb}
use borrow.Author.Tests.{le-leb, lt-leb}
use Rattle.loops.proofs.Tests.{le_or_lt}
use Rattle.grandpa.specs.Weight.{threshold}
use Rattle.grandpa.specs.Vote as meant
use Rattle.grandpa.specs.Vote.{total}
use Rattle.grandpa.specs.Answers.{finalized_of, estimate_of, completable_of, Told, told_from}
use Rattle.context.specs.declared.Phase.TheVariants.{Prevote, Precommit}
use Rattle.answers.specs.declared.Answers.{Answers}
use Rattle.answers.specs.Update.{waiting, reached, update}
use Rattle.answers.proofs.Steps.{update_none, update_waits, update_goes}
use Rattle.answer_laws.specs.Faithful.{Setting, table, voters, votes, scene_of, Faithful, Within, AllWithin, Untold, stored}
use Rattle.answer_laws.proofs.Weighed.{threshold_is}
use Rattle.answer_laws.proofs.Searched.{finalized_is, estimate_is, settled_is}
use Rattle.std.specs.Prelude.{Option, Some, None}

module _ (k : Setting) (f : Faithful k) where
  abbrev told_of : Option ℕ → Told
  told_of o = told_from (voters k) (table k) k.base (votes k Prevote) (votes k Precommit) o

  abbrev made : Option ℕ → Option ℕ → Option ℕ → Option ℕ → Bool → Answers
  made g p f e z = record { prevote = g; precommit = p; finalized = f; estimate = e; completable = z }

  heard_enough : k.set.threshold ≤ k.heard.precommit → leb (threshold (total (voters k))) (meant.heard (voters k) (votes k Precommit)) ≡ true
  heard_enough h = le-leb (threshold (total (voters k))) (meant.heard (voters k) (votes k Precommit)) (omega (arith, threshold_is k f, f.precommits_heard))

  heard_less : k.heard.precommit < k.set.threshold → leb (threshold (total (voters k))) (meant.heard (voters k) (votes k Precommit)) ≡ false
  heard_less h = lt-leb (threshold (total (voters k))) (meant.heard (voters k) (votes k Precommit)) (omega (arith, threshold_is k f, f.precommits_heard))

  module _ (a : Answers) where
    none_told : a.prevote ≡ None → (a.finalized ≡ None) × (a.estimate ≡ None) × (a.completable ≡ false) → a ≡ stored a.precommit (told_of None)
    unfolding told_from
    none_told e n = go
      where
        go : made a.prevote a.precommit a.finalized a.estimate a.completable ≡ made None a.precommit None None false
        go = rw (e, n.0, n.1, n.2)

    waiting_told : (g : ℕ) → a.prevote ≡ Some g → k.heard.precommit < k.set.threshold → (a.finalized ≡ None) × (a.completable ≡ false)
        → waiting a g ≡ stored a.precommit (told_of (Some g))
    unfolding told_from finalized_of estimate_of completable_of
    waiting_told g e h n = rw (heard_less h, e, n.0, n.1)

    reached_told : (g : ℕ) → a.prevote ≡ Some g → Within k g → k.set.threshold ≤ k.heard.precommit
        → reached (scene_of k) k.set.total k.heard.precommit a g ≡ stored a.precommit (told_of (Some g))
    unfolding told_from finalized_of estimate_of completable_of
    reached_told g e w h = rw (heard_enough h, e, finalized_is k f g w, estimate_is k f g w, settled_is k f g w)

    -- the four answers of the stored prevote-GHOST, once heard prevote weight reaches T
    pub update_told : (o : Option ℕ) → AllWithin k o → Untold k o a → k.set.threshold ≤ k.heard.prevote
        → update (scene_of k) k.set.total k.heard a
        ≡ stored a.precommit (told_from (voters k) (table k) k.base (votes k Prevote) (votes k Precommit) o)
    update_told None w u h =
        sym (update_none (scene_of k) k.set.total k.heard a h u.ghost_is) ∙ none_told u.ghost_is (u.before refl)
    update_told (Some g) w u h = go (le_or_lt k.set.threshold k.heard.precommit)
      where
        go : (k.set.threshold ≤ k.heard.precommit) ⊎ (k.heard.precommit < k.set.threshold)
            → update (scene_of k) k.set.total k.heard a ≡ stored a.precommit (told_of (Some g))
        go (inl l) = sym (update_goes (scene_of k) k.set.total k.heard a h g u.ghost_is l) ∙ reached_told g u.ghost_is w l
        go (inr l) = sym (update_waits (scene_of k) k.set.total k.heard a h g u.ghost_is l) ∙ waiting_told g u.ghost_is l (u.early l)
