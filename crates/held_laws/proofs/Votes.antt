-- A recorded pair, as the laws of the answers see it: a first vote and a second of the setting.
use mathlib.Core.Bool.{cond}
use mathlib.Core.List.{List}
use mathlib.Core.Path.{◌≡◌, refl, sym, ap, ◌∙◌}
use Prim.Native.Nat.{ℕ, ◌+◌, ◌≤◌, ◌<◌}
use native.Mathlib.Decide.{ℕ_discrete}
use native.Mathlib.Omega.{arith}
use lib.Dec.{eqb}
use lib.ListN.{get_or, set}
use lib.Seq.{get_or-set_same, get_or-set_other}
use borrow.Author.Tests.{eq-eqb, ne_eqb}
use Rattle.sizes.specs.Sizes.{VOTES}
use Rattle.layouts.specs.Layout.{index_place}
use Rattle.weights.specs.Weights.{most, plus}
use Rattle.columns.specs.Find.{find}
use Rattle.grandpa.specs.Vote.{once, twice}
use Rattle.voter_info.specs.declared.VoterInfo.{VoterInfo}
use Rattle.voter_info.specs.Info.{look_up}
use Rattle.voter_info.proofs.Infos.{look_up_at, look_up_nothing, info_says}
use Rattle.context.specs.declared.Phase.{Phase}
use Rattle.context.specs.declared.Phase.TheVariants.{Prevote, Precommit}
use Rattle.context.specs.Votes.{bit}
use Rattle.context.proofs.Places.{place_bit}
use Rattle.nodes.specs.Nodes.{col}
use Rattle.tracker.specs.declared.Votes.{Votes}
use Rattle.tracker.specs.Recorded.{cast_of, cast}
use Rattle.tracker.specs.Votes as column
use Rattle.tracker.specs.Votes.{Wide}
use Rattle.answers.specs.declared.Heard.{Heard}
use Rattle.answer_laws.specs.Faithful.{heard_in}
use Rattle.answer_laws.specs.Tells.{louder, with_second}
use Rattle.importing.specs.Import.{with_heard}
use Rattle.std.specs.Prelude.{Option, Some, None}

-- a voter that is found has the weight of its place
pub weight_there : (ids weights : List ℕ) (n x : ℕ) (v : VoterInfo) → look_up ids weights n x ≡ Some v → v.weight.0 ≡ get_or weights v.position 0
weight_there ids weights n x v e = go (find ids n x) refl
  where
    go : (o : Option ℕ) → find ids n x ≡ o → v.weight.0 ≡ get_or weights v.position 0
    go (Some k) q =
        let i = info_says k _ v (sym (look_up_at ids weights n x k q) ∙ e) in
        ap (λ (z : VoterInfo). z.weight.0) i.1 ∙ ap (λ (z : VoterInfo). get_or weights z.position 0) (sym i.1)
    go None q = let o = look_up_nothing ids weights n x q in absurd (let z : ◌≡◌ {A = ℕ} 0 1 = cc in omega arith)

-- the place of a voter's bit
pub place_fits : (phase : Phase) (p size : ℕ) → p < size → index_place (bit phase p) < size
place_fits phase p size h = rw (place_bit phase p) h

module _ (v : Votes) (w : Wide v) (j : ℕ) (few : j < VOTES) where
  cast_there : (n t : ℕ) → col v.counts j ≡ n → col v.first_block j ≡ t → cast v j ≡ cast_of n t
  unfolding cast
  cast_there n t e q = rw (e, q)

  -- a second
  pub cast_second : (target number signature i : ℕ)
      → cast (column.with_second v j target number signature) i ≡ with_second (cast v) j (col v.first_block j) i
  unfolding cast
  cast_second target number signature i = go (ℕ_discrete i j)
    where
      go : Dec (i ≡ j)
          → cast_of (col (set v.counts j 2) i) (col v.first_block i) ≡ cond (eqb i j) (twice (col v.first_block j)) (cast_of (col v.counts i) (col v.first_block i))
      go (yes e) = rw (eq-eqb i j e, e, get_or-set_same v.counts j 2 0 (omega (arith, w.counts_size)))
      go (no n) = rw (ne_eqb i j n, get_or-set_other v.counts j i 2 0 n)

  pub cast_once : col v.counts j ≡ 1 → cast v j ≡ once (col v.first_block j)
  cast_once e = cast_there 1 (col v.first_block j) e refl

plus_fits : (a b : ℕ) → a + b ≤ most → plus a b ≡ a + b
plus_fits a b h = omega arith

-- weights that fit are added
pub heard_louder : (phase : Phase) (w u : ℕ) (h : Heard) → w ≡ u → heard_in phase (louder phase u h) ≤ most → with_heard phase w h ≡ louder phase u h
heard_louder Prevote w u h e l = rw (e, plus_fits h.prevote u l)
heard_louder Precommit w u h e l = rw (e, plus_fits h.precommit u l)
