-- What calls leave: blocks are added and none changes, and votes come as they may.
use mathlib.Core.Path.{◌≡◌, refl, sym, subst, ◌∙◌}
use Prim.Native.Nat.{ℕ}
use native.Mathlib.Omega.{arith}
use Rattle.grandpa.specs.Tree.{Blocks}
use Rattle.grandpa.specs.Vote.{Vote, silent, once, twice}
use Rattle.grandpa.specs.Time.{Later, any_yet, the_same, a_second, no_third, Grown}
use Rattle.blocks.specs.Table.{blocks}
use Rattle.blocks.specs.Add.{step}
use Rattle.context.specs.declared.Phase.{Phase}
use Rattle.context.specs.Votes.{bit}
use Rattle.nodes.specs.Nodes.{col}
use Rattle.tracker.specs.declared.Pair.{Pair}
use Rattle.tracker.specs.Recorded.{cast}
use Rattle.judging.specs.declared.Verdict.{Verdict}
use Rattle.judging.specs.declared.Verdict.TheVariants.{Nothing, First, Second}
use Rattle.answer_laws.specs.Faithful.{Setting}
use Rattle.answer_laws.proofs.Recorded.{first_follows, second_follows}
use Rattle.importing.specs.Import.{Frame, Held, apply, verdict, import}
use Rattle.held_laws.specs.Kept.{setting, Kept}
use Rattle.held_laws.specs.Reached.{Comes, here, voted, added, asked}
use Rattle.held_laws.proofs.Parts.{kept_faithful}
use Rattle.held_laws.proofs.Steps.{first_quiet, first_in_set, first_in_base, first_in_table, first_apart, setting_first, second_in_set, second_spoken, setting_second}
use Rattle.held_laws.proofs.Adds.{step_grown}
use Rattle.held_laws.proofs.Reaches.{comes_kept}

later_same : (x : Vote) → Later x x
later_same silent = any_yet silent
later_same (once t) = the_same t
later_same (twice t) = no_third t

later_trans : (x y z : Vote) → Later x y → Later y z → Later x z
later_trans _ y z (any_yet _) l = any_yet z
later_trans _ _ z (the_same t) l = l
later_trans _ _ _ (a_second t) (no_third _) = a_second t
later_trans _ _ _ (no_third t) (no_third _) = no_third t

grown_same : (s : Blocks) → Grown s s
grown_same s = record { more = omega arith; same_up = λ k h. refl; same_number = λ k h. refl }

grown_trans : (s t u : Blocks) → Grown s t → Grown t u → Grown s u
grown_trans s t u g h =
    record {
      more = omega (arith, g.more, h.more);
      same_up = λ k l. g.same_up k l ∙ h.same_up k (omega (arith, l, g.more));
      same_number = λ k l. g.same_number k l ∙ h.same_number k (omega (arith, l, g.more));
    }

-- a vote
pub import_later : (f : Frame) (h : Held) → Kept f h → (phase : Phase) (signer : ℕ) (p : Pair) (j : ℕ)
    → Later (cast h.votes j) (cast (import f phase signer p h).held.votes j)
unfolding import
import_later f h k phase signer p j = go (verdict f phase signer p h) refl
  where
    Next : Setting → Type 0
    Next n = Later (cast h.votes j) (n.cast j)

    go : (d : Verdict) → verdict f phase signer p h ≡ d → Later (cast h.votes j) (cast (apply f phase signer p h d).held.votes j)
    go (Nothing a) e = later_same (cast h.votes j)
    go (First v b) e =
        subst Next (sym (setting_first f h k phase signer p v b e))
        ((first_follows (setting f h) (kept_faithful f h k) phase v.position (first_in_set f h k phase signer p v b e) b (first_quiet f h k phase signer p v b e)
        k.sound (first_in_base f h k phase signer p v b e) (first_in_table f h k phase signer p v b e) (first_apart f h k phase signer p v b e)).later j)
    go (Second v a) e =
        subst Next (sym (setting_second f h k phase signer p v a e))
        ((second_follows (setting f h) (kept_faithful f h k) phase v.position (second_in_set f h k phase signer p v a e)
        (col h.votes.first_block (bit phase v.position)) (second_spoken f h k phase signer p v a e)).later j)

module _ (f : Frame) (h : Held) (k : Kept f h) where
  pub comes_grown : (g : Frame) (i : Held) → Comes f h g i → Grown (blocks f.table) (blocks g.table)
  comes_grown _ _ here = grown_same (blocks f.table)
  comes_grown g _ (voted _ i c phase signer p) = comes_grown g i c
  comes_grown _ i (added g _ c id parent) =
      grown_trans (blocks f.table) (blocks g.table) (blocks (step g.table id parent).table) (comes_grown g i c)
      (step_grown g i (comes_kept f h k g i c) id parent)
  comes_grown g _ (asked _ i c) = comes_grown g i c

  pub comes_later : (g : Frame) (i : Held) → Comes f h g i → (j : ℕ) → Later (cast h.votes j) (cast i.votes j)
  comes_later _ _ here j = later_same (cast h.votes j)
  comes_later g _ (voted _ i c phase signer p) j =
      later_trans (cast h.votes j) (cast i.votes j) _ (comes_later g i c j) (import_later g i (comes_kept f h k g i c) phase signer p j)
  comes_later _ i (added g _ c id parent) j = comes_later g i c j
  comes_later g _ (asked _ i c) j = comes_later g i c j
