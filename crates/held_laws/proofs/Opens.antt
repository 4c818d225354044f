-- A round just opened keeps the shape.
use mathlib.Core.Path.{◌≡◌, sym, subst, fun_ext}
use Prim.Native.Nat.{ℕ}
use Rattle.grandpa.specs.Vote.{Vote, silent}
use Rattle.vote_insert.proofs.Opens.{sound_opened}
use Rattle.vote_graph.proofs.Clears.{clear_opened}
use Rattle.tracker.specs.Recorded.{cast}
use Rattle.tracker.specs.Votes.{no_votes}
use Rattle.vote_shape_laws.proofs.Opens.{zeros, wide_opened, tidy_opened, written_opened}
use Rattle.answer_laws.specs.Faithful.{Faithful}
use Rattle.answer_laws.specs.Tells.{after}
use Rattle.answer_laws.proofs.Opened.{opening, opened_faithful}
use Rattle.importing.specs.Import.{Frame, opened_held}
use Rattle.held_laws.specs.Kept.{setting, Kept}
use Rattle.held_laws.specs.Reached.{Opens}
use Rattle.held_laws.proofs.Parts.{cast_silent, faithful_kept}

pub no_cast : (j : ℕ) → cast no_votes j ≡ silent
no_cast j = cast_silent no_votes j (zeros j)

module _ (f : Frame) (o : Opens f) where
  faithful_opened : Faithful (setting f (opened_held f.base))
  faithful_opened =
      let k = opening f.voters f.table.parents f.table.ids f.table.numbers f.table.count f.base in
      subst (λ (c : ℕ → Vote). Faithful (after k k.graph k.equivocations k.heard c)) (sym (fun_ext no_cast))
      (opened_faithful f.voters f.table.parents f.table.ids f.table.numbers f.table.count f.base o.good o.fits
      o.table.tree o.in_table o.table.few)

  pub opened_kept : Kept f (opened_held f.base)
  opened_kept =
      faithful_kept f (opened_held f.base) faithful_opened o.table
      (sound_opened f.table.parents f.table.ids o.table.tree.falls f.base f.table.count o.in_table o.table.few)
      (clear_opened f.base)
      wide_opened (tidy_opened f.voters.count) written_opened
      (record { prevote = tt; precommit = tt; finalized = tt; estimate = tt })
