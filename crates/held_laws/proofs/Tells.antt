-- What is stored in a reached state tells the four answers: calls keep it so, and the GHOST stays or moves down.
use mathlib.Core.Path.{◌≡◌, refl, sym, subst}
use Prim.Native.Nat.{ℕ, pred, ◌≤◌, ◌<◌}
use native.Mathlib.Omega.{arith}
use lib.Dec.{T}
use Rattle.grandpa.specs.Time.{Down}
use Rattle.grandpa.proofs.Trees.{below_refl, below_trans, below_same}
use Rattle.voter_set.specs.declared.VoterSet.{VoterSet}
use Rattle.voter_laws.proofs.Goods.{total_used}
use Rattle.blocks.specs.Add.{step}
use Rattle.context.specs.declared.Phase.{Phase}
use Rattle.context.specs.declared.Phase.TheVariants.{Precommit}
use Rattle.context.specs.Votes.{bit}
use Rattle.nodes.specs.Nodes.{col}
use Rattle.tracker.specs.declared.Pair.{Pair}
use Rattle.judging.specs.declared.Verdict.{Verdict}
use Rattle.judging.specs.declared.Verdict.TheVariants.{Nothing, First, Second}
use Rattle.answers.specs.Update.{phase_ghost, told_after}
use Rattle.answer_laws.specs.Faithful.{Setting, scene_of, Faithful, AllWithin}
use Rattle.answer_laws.specs.Tells.{Tells}
use Rattle.answer_laws.proofs.Searched.{tabled_in}
use Rattle.answer_laws.proofs.Stays.{opened_tells, precommit_beside, blocks_tell}
use Rattle.answer_laws.proofs.Imported.{first_tells, second_tells}
use Rattle.importing.specs.Import.{Frame, with_table, Held, scene, apply, verdict, import, opened_held}
use Rattle.held_laws.specs.Kept.{setting, Kept}
use Rattle.held_laws.specs.Reached.{sought, Comes, here, voted, added, asked, Reached}
use Rattle.held_laws.proofs.Parts.{kept_faithful}
use Rattle.held_laws.proofs.Opens.{no_cast, opened_kept}
use Rattle.held_laws.proofs.Steps.{first_quiet, first_in_set, first_in_base, first_in_table, first_apart, setting_first, second_in_set, second_spoken, setting_second}
use Rattle.held_laws.proofs.Adds.{step_grown}
use Rattle.held_laws.proofs.Reaches.{comes_kept, comes_voters}
use Rattle.block_laws.proofs.Adds.{step_keeps}
use Rattle.std.specs.Prelude.{Option, Some, None}

module _ (up : ℕ → ℕ) (falls : (k : ℕ) → up k ≤ pred k) where
  down_same : (o : Option ℕ) → Down up o o
  down_same None = tt
  down_same (Some g) = below_refl up falls g

  down_trans : (o r s : Option ℕ) → Down up o r → Down up r s → Down up o s
  down_trans None r s d e = tt
  down_trans (Some a) None s d e = absurd d
  down_trans (Some a) (Some b) None d e = absurd e
  down_trans (Some a) (Some b) (Some c) d e = below_trans up falls a b c d e

-- the same on a table with more blocks
down_more : (k : Setting) → Faithful k → (up : ℕ → ℕ) → ((x : ℕ) → x < k.count → col k.parents x ≡ up x) → (o r : Option ℕ) → AllWithin k r
    → Down (col k.parents) o r → Down up o r
down_more k f up same None r w d = tt
down_more k f up same (Some a) None w d = absurd d
down_more k f up same (Some a) (Some b) w d = subst T (below_same k.count (col k.parents) up f.tabled.falls same a b (tabled_in k f b w)) d

-- the answers that another state stores, beside the GHOST o of an earlier one
abbrev pub Telling : Frame → Held → Option ℕ → Type 0
Telling f h o = (r : Option ℕ) × Down (col f.table.parents) o r × Tells (setting f h) r h.answers

module _ (f : Frame) (h : Held) (k : Kept f h) (o : Option ℕ) (t : Tells (setting f h) o h.answers) where
  pub import_tells : (phase : Phase) (signer : ℕ) (p : Pair) → Telling f (import f phase signer p h).held o
  unfolding import
  import_tells phase signer p = go (verdict f phase signer p h) refl
    where
      Next : Setting → Type 0
      Next n = (r : Option ℕ) × Down (col f.table.parents) o r × Tells n r (told_after (scene_of n) f.voters.total n.heard phase h.answers)

      go : (d : Verdict) → verdict f phase signer p h ≡ d → Telling f (apply f phase signer p h d).held o
      go (Nothing a) e = (o, down_same (col f.table.parents) k.table.tree.falls o, t)
      go (First v b) e =
          subst Next (sym (setting_first f h k phase signer p v b e))
          (first_tells (setting f h) (kept_faithful f h k) v.position (first_in_set f h k phase signer p v b e) b o h.answers t phase
          (first_quiet f h k phase signer p v b e) k.sound (first_in_base f h k phase signer p v b e) (first_in_table f h k phase signer p v b e)
          (first_apart f h k phase signer p v b e))
      go (Second v a) e =
          subst Next (sym (setting_second f h k phase signer p v a e))
          (second_tells (setting f h) (kept_faithful f h k) v.position (second_in_set f h k phase signer p v a e)
          (col h.votes.first_block (bit phase v.position)) o h.answers t phase (second_spoken f h k phase signer p v a e))

  pub adding_tells : (id parent : ℕ) → Tells (setting (with_table f (step f.table id parent).table) h) o h.answers
  adding_tells id parent =
      let n = (step f.table id parent).table in
      blocks_tell (setting f h) (kept_faithful f h k) n.parents n.ids n.numbers n.count (step_keeps f.table k.table id parent).tree
      (step_grown f h k id parent) o h.answers t

  pub sought_tells : Tells (setting f (sought f h)) o (sought f h).answers
  sought_tells = precommit_beside (setting f h) o h.answers t (phase_ghost (scene f h) Precommit h.heard.precommit h.answers.precommit)

module _ (f : Frame) (h : Held) (k : Kept f h) (o : Option ℕ) (tells : Tells (setting f h) o h.answers) where
  pub comes_tells : (g : Frame) (i : Held) → Comes f h g i → Telling g i o
  comes_tells _ _ here = (o, down_same (col f.table.parents) k.table.tree.falls o, tells)
  comes_tells g _ (voted _ i c phase signer p) =
      let before = comes_tells g i c in
      let kept = comes_kept f h k g i c in
      let next = import_tells g i kept before.0 before.2 phase signer p in
      (next.0, down_trans (col g.table.parents) kept.table.tree.falls o before.0 next.0 before.1 next.1, next.2)
  comes_tells _ i (added g _ c id parent) =
      let before = comes_tells g i c in
      let kept = comes_kept f h k g i c in (
        before.0,
        down_more (setting g i) (kept_faithful g i kept) (col (step g.table id parent).table.parents) (step_grown g i kept id parent).same_up o
            before.0 before.2.within before.1,
        adding_tells g i kept before.0 before.2 id parent,
      )
  comes_tells g _ (asked _ i c) =
      let before = comes_tells g i c in (before.0, before.1, sought_tells g i (comes_kept f h k g i c) before.0 before.2)

-- of a set with a weight: refusal 3 makes no other, and the shape rules do not say so
pub reached_tells : (f : Frame) (h : Held) → Reached f h → 0 < f.voters.total → (o : Option ℕ) × Tells (setting f h) o h.answers
reached_tells f h r some_weight =
    let first = r.start in
    let start = opened_held first.base in
    let weighs = subst (λ (v : VoterSet). 0 < v.total) (comes_voters first start f h r.calls) some_weight in
    let told = opened_tells (setting first start) no_cast (omega (arith, weighs, total_used first.voters r.opens.good)) None in
    let x = comes_tells first start (opened_kept first r.opens) None told f h r.calls in
    (x.0, x.2)
