-- A vote keeps the shape of a round, and a refused one leaves it as it was.
use mathlib.Core.Path.{◌≡◌, refl}
use Prim.Native.Nat.{ℕ}
use Rattle.voter_info.specs.declared.VoterInfo.{VoterInfo}
use Rattle.context.specs.declared.Phase.{Phase}
use Rattle.context.specs.Votes.{bit}
use Rattle.vote_insert.proofs.Keeps.{sound_inserted}
use Rattle.vote_graph.proofs.Clears.{clear_inserted}
use Rattle.tracker.specs.declared.Pair.{Pair}
use Rattle.vote_shape_laws.proofs.Keeps.{written_first, written_second, tidy_first, tidy_second, wide_first, wide_second}
use Rattle.judging.specs.declared.Verdict.{Verdict}
use Rattle.judging.specs.declared.Verdict.TheVariants.{Nothing, First, Second}
use Rattle.answer_laws.specs.Faithful.{Faithful}
use Rattle.answer_laws.proofs.Kept.{told_seated}
use Rattle.importing.specs.Import.{Frame, Held, scene, updated, with_first, with_second, apply, verdict, import}
use Rattle.held_laws.specs.Kept.{setting, Kept, Untaken}
use Rattle.held_laws.proofs.Parts.{faithful_kept}
use Rattle.held_laws.proofs.Votes.{place_fits}
use Rattle.held_laws.proofs.Steps.{first_silent, first_in_set, first_in_base, first_in_table, first_apart, first_few, first_kept_faithful, second_once, second_in_set, second_few, second_kept_faithful}

module _ (f : Frame) (h : Held) (k : Kept f h) (phase : Phase) (signer : ℕ) (p : Pair) where
  first_keeps : (v : VoterInfo) (b : ℕ) → verdict f phase signer p h ≡ First v b → Kept f (updated f phase (with_first f phase v b p h))
  first_keeps v b e =
      let next = with_first f phase v b p h in
      let j = bit phase v.position in
      let faith : Faithful (setting f next) = first_kept_faithful f h k phase signer p v b e in
      let in_base = first_in_base f h k phase signer p v b e in
      let in_table = first_in_table f h k phase signer p v b e in
      let apart = first_apart f h k phase signer p v b e in
      let few = first_few f h k phase signer p v b e in
      let quiet = first_silent f h k phase signer p v b e in
      faithful_kept f (updated f phase next) faith k.table
      (sound_inserted f.table.parents f.table.ids f.base f.table.count b in_base in_table h.graph k.sound apart j)
      (clear_inserted f.table.parents f.table.ids f.base f.table.count b in_base in_table h.graph k.sound k.clear apart j)
      (wide_first h.votes k.wide j b p.signature)
      (tidy_first f.voters.count h.votes k.wide j few
      (place_fits phase v.position f.voters.count (first_in_set f h k phase signer p v b e)) k.recorded.tidy b p.signature quiet)
      (written_first h.votes k.wide.counts_size h.entries h.count k.recorded.history j b p.signature few quiet)
      (told_seated (scene f next) f.table.ids f.table.count (setting f next).cast k.table.tree.falls faith.shape k.table.few f.voters.total
      next.heard phase h.answers k.seated)

  second_keeps : (v : VoterInfo) (a : Pair) → verdict f phase signer p h ≡ Second v a → Kept f (updated f phase (with_second phase v p h))
  second_keeps v a e =
      let next = with_second phase v p h in
      let j = bit phase v.position in
      let faith : Faithful (setting f next) = second_kept_faithful f h k phase signer p v a e in
      let few = second_few f h k phase signer p v a e in
      let spoken = second_once f h k phase signer p v a e in
      faithful_kept f (updated f phase next) faith k.table k.sound k.clear
      (wide_second h.votes k.wide j p.target p.number p.signature)
      (tidy_second f.voters.count h.votes k.wide j few
      (place_fits phase v.position f.voters.count (second_in_set f h k phase signer p v a e)) k.recorded.tidy p.target p.number p.signature spoken)
      (written_second h.votes k.wide.counts_size h.entries h.count k.recorded.history j p.target p.number p.signature few spoken)
      (told_seated (scene f next) f.table.ids f.table.count (setting f next).cast k.table.tree.falls faith.shape k.table.few f.voters.total
      next.heard phase h.answers k.seated)

  pub import_keeps : Kept f (import f phase signer p h).held
  unfolding import
  import_keeps = go (verdict f phase signer p h) refl
    where
      go : (d : Verdict) → verdict f phase signer p h ≡ d → Kept f (apply f phase signer p h d).held
      go (Nothing a) e = k
      go (First v b) e = first_keeps v b e
      go (Second v a) e = second_keeps v a e

-- a vote that is not taken changes nothing, whatever the state
pub import_refused : (f : Frame) (phase : Phase) (signer : ℕ) (p : Pair) (h : Held) → Untaken (import f phase signer p h).answer
    → (import f phase signer p h).held ≡ h
unfolding import
import_refused f phase signer p h = go (verdict f phase signer p h)
  where
    go : (d : Verdict) → Untaken (apply f phase signer p h d).answer → (apply f phase signer p h d).held ≡ h
    go (Nothing a) u = refl
    go (First v b) u = absurd u
    go (Second v a) u = absurd u
