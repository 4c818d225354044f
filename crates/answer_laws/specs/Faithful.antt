-- What the laws suppose of a round: that its columns tell what is recorded. Document 01, "Shape rules": total and T as
-- above; heard weights, node bits and equivocator bits as the recorded votes say.
use Rattle.std.specs.Prelude.{false, List, ◌≡◌, ℕ, ◌≤◌, ◌<◌, T, get_or, length, Option, Some, None}
use Rattle.sizes.specs.Sizes.{WORDS, BLOCKS}
use Rattle.weights.specs.Weights.{most}
use Rattle.grandpa.specs.Tree.{Blocks, Tabled, below}
use Rattle.grandpa.specs.Vote.{Vote, silent, Voters, heard, equivocated}
use Rattle.grandpa.specs.Answers.{Told}
use Rattle.voter_set.specs.declared.VoterSet.{VoterSet}
use Rattle.voter_set.specs.Good.{Good}
use Rattle.bitfield.specs.Bits.{has}
use Rattle.context.specs.declared.Phase.{Phase}
use Rattle.context.specs.declared.Phase.TheVariants.{Prevote, Precommit}
use Rattle.context.specs.Votes.{bit}
use Rattle.graph.specs.Shape.{Shape, UsedOnly}
use Rattle.nodes.specs.Nodes.{col, flag}
use Rattle.nodes.specs.Columns.{Columns, view}
use Rattle.answers.specs.declared.Answers.{Answers}
use Rattle.answers.specs.declared.Heard.{Heard}
use Rattle.answers.specs.Update.{Scene, scene}

-- a round by its columns, and what is recorded of each bit
pub record Setting : Type 0 where
  pub set : VoterSet
  pub parents : List ℕ
  pub ids : List ℕ
  pub numbers : List ℕ
  pub count : ℕ
  pub base : ℕ
  pub graph : Columns
  pub equivocations : List ℕ
  pub heard : Heard
  pub cast : ℕ → Vote

abbrev pub table : Setting → Blocks
table k = record { count = k.count; up = col k.parents; number = col k.numbers }

abbrev pub voters : Setting → Voters
voters k = record { size = k.set.count; weight = λ p. get_or k.set.weights p 0 }

-- what is recorded of the voters in a phase
abbrev pub votes : Setting → Phase → ℕ → Vote
votes k phase p = k.cast (bit phase p)

abbrev pub scene_of : Setting → Scene
scene_of k = scene k.parents k.base k.set.weights k.set.threshold k.graph k.equivocations

abbrev pub heard_in : Phase → Heard → ℕ
heard_in Prevote h = h.prevote
heard_in Precommit h = h.precommit

pub record Faithful (k : Setting) : Type 0 where
  pub good : Good k.set
  pub fits : k.set.total ≤ most
  pub tabled : Tabled (table k)
  pub small : k.count ≤ BLOCKS
  pub shape : Shape (col k.parents) (col k.ids) k.base k.count k.cast (view k.graph)
  pub only : UsedOnly k.base k.cast (flag k.graph.used)
  pub no_voter : (phase : Phase) (p : ℕ) → k.set.count ≤ p → votes k phase p ≡ silent
  pub two_words : length k.equivocations ≡ WORDS
  pub doubled : (j : ℕ) → has k.equivocations j ≡ equivocated (k.cast j)
  pub prevotes_heard : k.heard.prevote ≡ heard (voters k) (votes k Prevote)
  pub precommits_heard : k.heard.precommit ≡ heard (voters k) (votes k Precommit)

-- a block at or below the base that is in the graph: a node stands at or below it
pub record Within (k : Setting) (b : ℕ) : Type 0 where
  pub in_base : T (below (col k.parents) k.base b)
  pub node : ℕ
  pub is_node : T (flag k.graph.used node)
  pub under : T (below (col k.parents) b node)

abbrev pub AllWithin : Setting → Option ℕ → Type 0
AllWithin k None = Unit {0}
AllWithin k (Some g) = Within k g

abbrev pub FoundWithin : Setting → Option ℕ → Type 0
FoundWithin k None = Unit {0}
FoundWithin k (Some b) = Within k b

-- stored beside the prevote-GHOST o before it can be told: nothing
pub record Untold (k : Setting) (o : Option ℕ) (a : Answers) : Type 0 where
  pub ghost_is : a.prevote ≡ o
  pub early : k.heard.precommit < k.set.threshold → (a.finalized ≡ None) × (a.completable ≡ false)
  pub before : o ≡ None → (a.finalized ≡ None) × (a.estimate ≡ None) × (a.completable ≡ false)

-- the answers, the stored precommit-GHOST beside them
abbrev pub stored : Option ℕ → Told → Answers
stored precommit x =
    record {
      prevote = x.ghost;
      precommit = precommit;
      finalized = x.finalized;
      estimate = x.estimate;
      completable = x.completable;
    }
