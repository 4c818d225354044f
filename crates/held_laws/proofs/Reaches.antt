-- Calls keep the shape: every reached state has it, so that every call on it is ready.
use mathlib.Core.Path.{◌≡◌, refl}
use Prim.Native.Nat.{ℕ}
use Rattle.blocks.specs.Add.{step}
use Rattle.context.specs.declared.Phase.{Phase}
use Rattle.tracker.specs.declared.Pair.{Pair}
use Rattle.importing.specs.Import.{Frame, framed, with_table, Held, Ready, import, opened_held}
use Rattle.held_laws.specs.Kept.{Kept}
use Rattle.held_laws.specs.Reached.{Opens, sought, Comes, here, voted, added, asked, Reached}
use Rattle.held_laws.proofs.Parts.{kept_ready}
use Rattle.held_laws.proofs.Opens.{opened_kept}
use Rattle.held_laws.proofs.Keeps.{import_keeps}
use Rattle.held_laws.proofs.Adds.{adding_keeps, sought_keeps}

pub comes_kept : (f : Frame) (h : Held) → Kept f h → (g : Frame) (i : Held) → Comes f h g i → Kept g i
comes_kept f h k _ _ here = k
comes_kept f h k g _ (voted _ i c phase signer p) = import_keeps g i (comes_kept f h k g i c) phase signer p
comes_kept f h k _ i (added g _ c id parent) = adding_keeps g i (comes_kept f h k g i c) id parent
comes_kept f h k g _ (asked _ i c) = sought_keeps g i (comes_kept f h k g i c)

-- no call changes number, voters or base
module _ (f : Frame) (h : Held) where
  pub comes_number : (g : Frame) (i : Held) → Comes f h g i → g.number ≡ f.number
  comes_number _ _ here = refl
  comes_number g _ (voted _ i c phase signer p) = comes_number g i c
  comes_number _ i (added g _ c id parent) = comes_number g i c
  comes_number g _ (asked _ i c) = comes_number g i c

  pub comes_voters : (g : Frame) (i : Held) → Comes f h g i → g.voters ≡ f.voters
  comes_voters _ _ here = refl
  comes_voters g _ (voted _ i c phase signer p) = comes_voters g i c
  comes_voters _ i (added g _ c id parent) = comes_voters g i c
  comes_voters g _ (asked _ i c) = comes_voters g i c

  pub comes_base : (g : Frame) (i : Held) → Comes f h g i → g.base ≡ f.base
  comes_base _ _ here = refl
  comes_base g _ (voted _ i c phase signer p) = comes_base g i c
  comes_base _ i (added g _ c id parent) = comes_base g i c
  comes_base g _ (asked _ i c) = comes_base g i c

  pub comes_framed : (g : Frame) (i : Held) → Comes f h g i → g ≡ with_table f g.table
  comes_framed g i c = λ n. framed (comes_number g i c n) (comes_voters g i c n) g.table (comes_base g i c n)

module _ (f : Frame) (h : Held) (r : Reached f h) where
  pub reached_kept : Kept f h
  reached_kept = comes_kept r.start (opened_held r.start.base) (opened_kept r.start r.opens) f h r.calls

  pub reached_ready : Ready f h
  reached_ready = kept_ready f h reached_kept

  -- each call reaches a state
  pub reached_voted : (phase : Phase) (signer : ℕ) (p : Pair) → Reached f (import f phase signer p h).held
  reached_voted phase signer p = record { start = r.start; opens = r.opens; calls = voted f h r.calls phase signer p }

  pub reached_added : (id parent : ℕ) → Reached (with_table f (step f.table id parent).table) h
  reached_added id parent = record { start = r.start; opens = r.opens; calls = added f h r.calls id parent }

  pub reached_asked : Reached f (sought f h)
  reached_asked = record { start = r.start; opens = r.opens; calls = asked f h r.calls }

pub reached_opened : (f : Frame) → Opens f → Reached f (opened_held f.base)
reached_opened f o = record { start = f; opens = o; calls = here }
