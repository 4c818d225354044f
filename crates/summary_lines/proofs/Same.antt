-- These are the lines of the replay itself.
use mathlib.Core.List.{List}
use mathlib.Core.Path.{◌≡◌, refl}
use Prim.Native.Nat.{ℕ}
use Rattle.journal.specs.declared.Turn.{Turn}
use Rattle.journal.specs.declared.Turn.TheVariants.{Voters, Blocks, Votes}
use Rattle.feeding.specs.declared.Replay.{Replay}
use Rattle.lines.specs.Lines.{answer_lines, round_lines}
use Rattle.report.specs.Report.{lines_by, lines_of}
use Rattle.summary.specs.Summary.{bare, of_round, summed_by, summed}
use Rattle.summary_lines.specs.Text.{answer_text, round_text, text_of}
use Rattle.std.specs.Prelude.{Result, Ok, Err, ⊤}
use Rattle.refusals.specs.declared.Refusal.{Refusal}

module _ (r : Replay) where
  abbrev Same : Result ⊤ Refusal → Turn → Type 0
  Same s t = text_of (summed_by s t r) ≡ lines_by s t r

  of_refused : (n : Refusal) (t : Turn) → Same (Err n) t
  unfolding text_of bare
  of_refused n t = refl

  of_votes : Same (Ok tt) Votes
  unfolding text_of of_round round_text answer_text round_lines answer_lines
  of_votes = refl

  of_blocks : Same (Ok tt) Blocks
  unfolding text_of bare
  of_blocks = refl

  of_voters : Same (Ok tt) Voters
  unfolding text_of bare
  of_voters = refl

  by_end : (s : Result ⊤ Refusal) (t : Turn) → Same s t
  by_end (Err n) t = of_refused n t
  by_end (Ok tt) Votes = of_votes
  by_end (Ok tt) Blocks = of_blocks
  by_end (Ok tt) Voters = of_voters

  pub text_summed : text_of (summed r) ≡ lines_of r
  unfolding summed lines_of
  text_summed = by_end r.stop r.journal.turn
