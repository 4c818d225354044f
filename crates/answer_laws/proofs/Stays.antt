-- What is stored tells the four answers from the opening of a round on, and when blocks are added. With prevote equivocators
-- at most F these are the definition's, and no import takes back what was told.
use mathlib.Core.Bool.{false}
use mathlib.Core.List.{List}
use mathlib.Core.Path.{◌≡◌, refl, sym, ap, subst, ◌∙◌}
use mathlib.Core.Logic.{◌⊎◌, inl, inr}
use Prim.Native.Nat.{ℕ, ◌≤◌, ◌<◌}
use native.Mathlib.Omega.{arith}
use lib.Dec.{T, leb, leb→le}
use borrow.Author.Tests.{lt-leb}
use Rattle.loops.proofs.Tests.{le_or_lt}
use Rattle.loops.proofs.Sums.{weigh_none}
use Rattle.grandpa.specs.Weight.{fault, threshold}
use Rattle.grandpa.specs.Tree.{Blocks, Tabled, below}
use Rattle.grandpa.specs.Vote.{Vote, silent, once, twice, Voters, total, heard, equivocators, spoke, lands, weighty, phase_weight}
use Rattle.grandpa.specs.Answers.{Says, Ghost, ghost_of, told_from, told}
use Rattle.grandpa.specs.Time.{Placed, VotesPlaced, Grown, Stored, Down, Kept}
use Rattle.grandpa.proofs.Trees.{below_le, below_same}
use Rattle.grandpa.proofs.Votes.{bare_weight}
use Rattle.grandpa.proofs.Growth.{weight_same, told_same}
use Rattle.grandpa.proofs.Answers.{ghost_says, ghost_some, ghost_unique}
use Rattle.grandpa.proofs.Kept.{told_kept}
use Rattle.context.specs.declared.Phase.TheVariants.{Prevote, Precommit}
use Rattle.context.specs.Votes.{bit}
use Rattle.nodes.specs.Nodes.{col}
use Rattle.nodes.specs.Columns.{Columns}
use Rattle.answers.specs.declared.Answers.{Answers}
use Rattle.answers.specs.declared.Heard.{Heard}
use Rattle.answers.specs.Update.{with_precommit}
use Rattle.answer_laws.specs.Faithful.{Setting, table, voters, votes, Faithful, AllWithin, stored}
use Rattle.answer_laws.specs.Tells.{Heavy, Tells, after, Follows, extended}
use Rattle.answer_laws.proofs.Searched.{tabled_in}
use Rattle.answer_laws.proofs.Ghosted.{votes_placed}
use Rattle.std.specs.Prelude.{Option, Some, None}

-- while equivocators are at most F, blocks that are added do not change the GHOST
module _ (vs : Voters) (s t : Blocks) (tabled_s : Tabled s) (tabled : Tabled t) (grown : Grown s t) (base : ℕ) (pv : ℕ → Vote)
    (placed : VotesPlaced vs s base pv) (some_weight : 0 < total vs) (few : equivocators vs pv ≤ fault (total vs)) where
  same : (b : ℕ) → weighty vs s.up pv b ≡ weighty vs t.up pv b
  same b = ap (leb (threshold (total vs))) (weight_same vs s t tabled_s.falls grown base pv placed b)

  lands_early : (b : ℕ) (x : Vote) → Placed s base x → T (lands s.up b x) → b < s.count
  lands_early b silent p l = absurd l
  lands_early b (once x) p l = omega (arith, below_le s.up tabled_s.falls b x l, p.0)
  lands_early b (twice x) p l = omega (arith, below_le s.up tabled_s.falls b x l, p.0)

  -- a block that came later has no weight but the equivocators'
  heavy_early : (b : ℕ) → T (weighty vs s.up pv b) → b < s.count
  heavy_early b w = go (le_or_lt s.count b)
    where
      go : (s.count ≤ b) ⊎ (b < s.count) → b < s.count
      go (inr l) = l
      go (inl l) =
          absurd (omega (
            arith,
            leb→le (threshold (total vs)) (phase_weight vs s.up pv b) w,
            bare_weight vs s.up pv b (λ i h m. omega (arith, lands_early b (pv i) (placed i h) m)),
          ))

  ghost_back : (g : ℕ) → Ghost vs t pv g → Ghost vs s pv g
  ghost_back g p =
      let w : T (weighty vs s.up pv g) = subst T (sym (same g)) p.highest.passes in
      let early = heavy_early g w in
      record {
        reached = p.reached;
        highest =
            record {
              tabled = early;
              passes = w;
              highest = λ b h q.
                  omega (arith, p.highest.highest b (omega (arith, grown.more)) (subst T (same b) q), grown.same_number b h, grown.same_number g early);
            };
      }

  pub ghost_same : ghost_of vs s pv ≡ ghost_of vs t pv
  ghost_same = go (ghost_of vs s pv) (ghost_says vs s pv) (ghost_of vs t pv) (ghost_says vs t pv)
    where
      go : (o : Option ℕ) → Says (Ghost vs s pv) o → (r : Option ℕ) → Says (Ghost vs t pv) r → o ≡ r
      go None n None m = refl
      go None n (Some x) p = absurd (n x (ghost_back x p))
      go (Some g) p None m =
          let x = ghost_some vs t pv g p.reached (omega (arith, p.highest.tabled, grown.more)) (subst T (same g) p.highest.passes) in
          absurd (m x.0 x.1)
      go (Some g) p (Some x) q = ap Some (ghost_unique vs s tabled_s some_weight pv few g x p (ghost_back x q))

-- a round just opened tells nothing
module _ (k : Setting) (quiet : (j : ℕ) → k.cast j ≡ silent) (some_weight : 0 < total (voters k)) where
  unheard : heard (voters k) (votes k Prevote) ≡ 0
  unheard =
      weigh_none k.set.count (voters k).weight (λ i. spoke (votes k Prevote i))
      (λ i h s. subst (λ (v : Vote). T (spoke v)) (quiet (bit Prevote i)) s)

  no_ghost : None ≡ ghost_of (voters k) (table k) (votes k Prevote)
  unfolding ghost_of
  no_ghost = rw (lt-leb (threshold (total (voters k))) (heard (voters k) (votes k Prevote)) (omega (arith, unheard)))

  pub opened_tells : (p : Option ℕ)
      → Tells k None (record { prevote = None; precommit = p; finalized = None; estimate = None; completable = false })
  unfolding told_from
  opened_tells p =
      record { within = tt; heavy = tt; found = λ h. absurd (omega (arith, unheard)); meant = λ h few. no_ghost; told = refl }

module _ (k : Setting) (o : Option ℕ) (a : Answers) (t : Tells k o a) where
  -- the precommit-GHOST is stored beside the answers
  pub precommit_beside : (g : Option ℕ) → Tells k o (with_precommit a g)
  precommit_beside g =
      record {
        within = t.within;
        heavy = t.heavy;
        found = t.found;
        meant = t.meant;
        told = ap (λ (x : Answers). with_precommit x g) t.told;
      }

  -- with prevote equivocators at most F, the four answers are the definition's
  pub tells_meant : 0 < total (voters k) → equivocators (voters k) (votes k Prevote) ≤ fault (total (voters k))
      → a ≡ stored a.precommit (told (voters k) (table k) k.base (votes k Prevote) (votes k Precommit))
  unfolding told
  tells_meant some_weight few =
      t.told ∙ ap (λ (r : Option ℕ). stored a.precommit (told_from (voters k) (table k) k.base (votes k Prevote) (votes k Precommit) r)) (t.meant some_weight few)

-- a stored GHOST is in the table, at or below the base
pub within_stored : (k : Setting) → Faithful k → (o : Option ℕ) → AllWithin k o → Stored (table k) k.base o
within_stored k f None w = tt
within_stored k f (Some g) w = (tabled_in k f g w, w.in_base)

-- nothing told is taken back by an import
pub import_kept : (k : Setting) → Faithful k → (graph : Columns) (equivocations : List ℕ) (heard : Heard) (cast : ℕ → Vote)
    → Faithful (after k graph equivocations heard cast) → Follows k graph cast → 0 < total (voters k)
    → (o r : Option ℕ) → AllWithin k o → Down (col k.parents) o r
    → Kept (col k.parents) (equivocators (voters k) (λ p. cast (bit Precommit p)) ≤ fault (total (voters k)))
    (told_from (voters k) (table k) k.base (votes k Prevote) (votes k Precommit) o)
    (told_from (voters k) (table k) k.base (λ p. cast (bit Prevote p)) (λ p. cast (bit Precommit p)) r)
import_kept k f graph equivocations heard cast f' n some_weight o r w d =
    told_kept (voters k) some_weight k.base (table k) (table k) f.tabled f.tabled
    (record { more = omega arith; same_up = λ b h. refl; same_number = λ b h. refl })
    (votes k Prevote) (λ p. cast (bit Prevote p)) (votes k Precommit) (λ p. cast (bit Precommit p))
    (votes_placed k f Prevote) (votes_placed k f Precommit) (votes_placed (after k graph equivocations heard cast) f' Precommit)
    (λ i h. n.later (bit Precommit i)) o r (within_stored k f o w) d

-- blocks that are added change nothing told
module _ (k : Setting) (f : Faithful k) (parents ids numbers : List ℕ) (count : ℕ)
    (tabled : Tabled (table (extended k parents ids numbers count))) (grown : Grown (table k) (table (extended k parents ids numbers count))) where
  abbrev more : Setting
  more = extended k parents ids numbers count

  below_more : (a b : ℕ) → b < k.count → T (below (col k.parents) a b) → T (below (col parents) a b)
  below_more a b h l = subst T (below_same k.count (col k.parents) (col parents) f.tabled.falls grown.same_up a b h) l

  within_more : (o : Option ℕ) → AllWithin k o → AllWithin more o
  within_more None w = tt
  within_more (Some g) w =
      record {
        in_base = below_more k.base g (tabled_in k f g w) w.in_base;
        node = w.node;
        is_node = w.is_node;
        under = below_more g w.node (f.shape.nodes.tabled w.node w.is_node) w.under;
      }

  heavy_more : (o : Option ℕ) → Heavy k o → Heavy more o
  heavy_more None w = tt
  heavy_more (Some g) w =
      subst (λ (n : ℕ). T (leb (threshold (total (voters k))) n))
      (weight_same (voters k) (table k) (table more) f.tabled.falls grown k.base (votes k Prevote) (votes_placed k f Prevote) g) w

  pub blocks_tell : (o : Option ℕ) (a : Answers) → Tells k o a → Tells (extended k parents ids numbers count) o a
  blocks_tell o a t =
      record {
        within = within_more o t.within;
        heavy = heavy_more o t.heavy;
        found = t.found;
        meant = λ some_weight few.
            t.meant some_weight few
            ∙ ghost_same (voters k) (table k) (table more) f.tabled tabled grown k.base (votes k Prevote) (votes_placed k f Prevote) some_weight few;
        told =
            t.told
            ∙ ap (stored a.precommit)
            (told_same (voters k) (table k) (table more) f.tabled.falls grown k.base (votes k Prevote) (votes k Precommit)
            (votes_placed k f Prevote) (votes_placed k f Precommit) o (within_stored k f o t.within));
      }
