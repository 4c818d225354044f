-- An import of a first vote, and of a second, leaves answers stored that tell the four answers; the GHOST stays or moves down.
use mathlib.Core.Path.{◌≡◌}
use mathlib.Core.Logic.{◌≢◌}
use Prim.Native.Nat.{ℕ, ◌<◌}
use native.Mathlib.Omega.{arith}
use lib.Dec.{T}
use Rattle.grandpa.specs.Tree.{below}
use Rattle.grandpa.specs.Vote.{silent, once, twice}
use Rattle.grandpa.specs.Time.{Down}
use Rattle.grandpa.proofs.Trees.{below_refl}
use Rattle.context.specs.declared.Phase.{Phase}
use Rattle.context.specs.declared.Phase.TheVariants.{Prevote, Precommit}
use Rattle.nodes.specs.Nodes.{col, flag}
use Rattle.nodes.specs.Columns.{Sound}
use Rattle.answers.specs.declared.Answers.{Answers}
use Rattle.answers.specs.Update.{told_after}
use Rattle.answer_laws.specs.Faithful.{Setting, votes, scene_of, Faithful}
use Rattle.answer_laws.specs.Tells.{Tells, Follows, first_vote, second_vote}
use Rattle.answer_laws.proofs.Imports.{prevote_tells, precommit_tells}
use Rattle.answer_laws.proofs.Recorded.{other_phase, first_faithful, first_follows, second_faithful, second_follows}
use Rattle.std.specs.Prelude.{Option, Some, None}

-- the answers stored after an import that made k into n
abbrev pub ToldNext : Setting → Setting → Phase → Option ℕ → Answers → Type 0
ToldNext k n phase o a =
    (r : Option ℕ) × Down (col k.parents) o r × Tells n r (told_after (scene_of n) k.set.total n.heard phase a)

module _ (k : Setting) (f : Faithful k) (p : ℕ) (in_set : p < k.set.count) (t : ℕ) (o : Option ℕ) (a : Answers) (tells : Tells k o a) where
  stays : (o : Option ℕ) → Down (col k.parents) o o
  stays None = tt
  stays (Some g) = below_refl (col k.parents) f.tabled.falls g

  first_told : (phase : Phase) → Faithful (first_vote k phase p t) → Follows k (first_vote k phase p t).graph (first_vote k phase p t).cast
      → ToldNext k (first_vote k phase p t) phase o a
  first_told Prevote g n =
      let w = first_vote k Prevote p t in prevote_tells k w.graph w.equivocations w.heard w.cast g n o a tells
  first_told Precommit g n =
      let w = first_vote k Precommit p t in (
        o,
        stays o,
        precommit_tells k w.graph w.equivocations w.heard w.cast g n o a tells (other_phase k f Precommit p in_set (once t) Prevote (λ e. omega arith)),
      )

  second_told : (phase : Phase) → Faithful (second_vote k phase p t) → Follows k (second_vote k phase p t).graph (second_vote k phase p t).cast
      → ToldNext k (second_vote k phase p t) phase o a
  second_told Prevote g n =
      let w = second_vote k Prevote p t in prevote_tells k w.graph w.equivocations w.heard w.cast g n o a tells
  second_told Precommit g n =
      let w = second_vote k Precommit p t in (
        o,
        stays o,
        precommit_tells k w.graph w.equivocations w.heard w.cast g n o a tells (other_phase k f Precommit p in_set (twice t) Prevote (λ e. omega arith)),
      )

  module _ (phase : Phase) where
    pub first_tells : votes k phase p ≡ silent → Sound k.parents k.ids k.base k.count k.graph
        → T (below (col k.parents) k.base t) → t < k.count
        → ((y : ℕ) → T (flag k.graph.used y) → y ≢ t → col k.ids y ≢ col k.ids t)
        → ToldNext k (first_vote k phase p t) phase o a
    first_tells quiet sound in_base in_table apart =
        first_told phase (first_faithful k f phase p in_set t quiet sound in_base in_table apart) (first_follows k f phase p in_set t quiet sound in_base in_table apart)

    pub second_tells : votes k phase p ≡ once t → ToldNext k (second_vote k phase p t) phase o a
    second_tells spoken = second_told phase (second_faithful k f phase p in_set t spoken) (second_follows k f phase p in_set t spoken)
