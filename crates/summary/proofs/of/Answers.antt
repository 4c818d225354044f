use mathlib.Core.Logic.{◌⊎◌, inl, inr}
use mathlib.Core.Path.{◌≡◌, sym, ◌∙◌}
use Rattle.std.specs.Prelude.{Ok}
use Rattle.feeding.specs.declared.Replay.{Replay}
use Rattle.journal.specs.declared.Turn.TheVariants.{Voters, Blocks}
use Rattle.summary.specs.declared.Outcome.TheVariants.{Early}
use Rattle.summary.specs.Summary.{bare, summed, summed_by}
use Rattle.summary.proofs.of.Goals as goal

pub returns-in-Err : goal.returns-in-Err
unfolding summed
returns-in-Err c = rw (c.bare.ensures, c.in-Err.is)

pub returns-in-Votes : goal.returns-in-Votes
unfolding summed
returns-in-Votes c = rw (c.of_round.ensures, c.in-Ok.is, c.in-Votes.is)

early : (r : Replay) → r.stop ≡ Ok tt → (r.journal.turn ≡ Blocks) ⊎ (r.journal.turn ≡ Voters) → bare Early r.records r.rest.count ≡ summed r
unfolding summed
early r e (inl f) = sym (λ i. summed_by (e i) (f i) r)
early r e (inr f) = sym (λ i. summed_by (e i) (f i) r)

pub returns-in-Blocks : goal.returns-in-Blocks
returns-in-Blocks c = c.bare-in-Blocks.ensures ∙ early c.args.replay c.in-Ok.is c.in-Blocks.is
