-- Each call writes at most so many bytes, or refuses with a number of document 01's, never 9, and 14 only where the buffer has fewer.
use mathlib.Core.Bool.{Bool, true, false, cond}
use mathlib.Core.List.{List, ◌++◌}
use mathlib.Core.Path.{◌≡◌, refl, subst}
use Prim.Native.Nat.{ℕ, ◌+◌, ◌*◌, ◌≤◌, ◌<◌}
use native.Mathlib.Omega.{arith}
use lib.Dec.{ltb}
use lib.ListN.{length, drop}
use borrow.Author.Tests.{ltb-true, ltb-false}
use Rattle.sizes.specs.Sizes.{VOTES}
use Rattle.grandpa.specs.Views.{two_views}
use Rattle.records.specs.Bytes.{little}
use Rattle.listing.specs.declared.Wanted.TheVariants.{Finalizing}
use Rattle.listing.specs.Written.{record_of, in_a_row}
use Rattle.round.specs.declared.Round.{Round}
use Rattle.round.specs.Shape.{shaped}
use Rattle.round.specs.Ask.{entries_of}
use Rattle.two_views.specs.Views.{agree, voters, precommits}
use Rattle.feeding.specs.Feeding.{replayed}
use Rattle.report.specs.Report.{lines_of}
use Rattle.summary.specs.Summary.{summed}
use Rattle.figures.specs.Figures.{figures, in_order}
use Rattle.figures.proofs.Rows.{figures_length}
use Rattle.beamtassel.specs.Calls.{Call, refused, given, unless_refused, has_round, finalizing_in, views_in, weighed, replay_call, print_call, finalizing_call, two_views_call}
use Rattle.beamtassel.proofs.Rounds.{round_passes}
use Rattle.beamtassel_laws.specs.Results.{Results, wrote, refuses}
use Rattle.beamtassel_laws.proofs.Sizes.{lines_size, list_size}
use Rattle.beamtassel_laws.proofs.Numbers.{own_refusal}
use Rattle.std.specs.Prelude.{Option, Some, None, Result, Ok, Err, ⊤}
use Rattle.refusals.specs.declared.Refusal.{Refusal}
use Rattle.refusals.specs.declared.Refusal.TheVariants.{ShortBuffer, NothingFinal, UnlikeViews}
use Rattle.refusals.specs.Number.{number}

module _ (most : ℕ) (out : List ℕ) where
  given_results : (bytes : List ℕ) → length bytes ≤ most → Results most out (given bytes out)
  given_results bytes few = go (ltb (length out) (length bytes)) refl
    where
      go : (t : Bool) → ltb (length out) (length bytes) ≡ t → Results most out (cond t (refused ShortBuffer out) (record { number = length bytes; out = bytes ++ drop (length bytes) out }))
      go true e = refuses ShortBuffer (record { listed = (omega arith, omega arith); not_nine = λ q. omega arith }) (λ q. omega (arith, few, ltb-true (length out) (length bytes) e))
      go false e = wrote bytes few (ltb-false (length out) (length bytes) e)

  -- the call's own numbers
  no_results : (e : Refusal) → 15 ≤ number e → number e ≤ 16 → Results most out (refused e out)
  no_results e h k =
      refuses e (record { listed = (omega (arith, h), omega (arith, k)); not_nine = λ q. omega (arith, h) }) (λ q. absurd (omega (arith, h)))

  unless_results : (bs : List ℕ) (call : Call) → ((replayed bs).stop ≡ Ok tt → Results most out call)
      → Results most out (unless_refused (replayed bs).stop out call)
  unless_results bs call r = go (replayed bs).stop refl
    where
      go : (s : Result ⊤ Refusal) → (replayed bs).stop ≡ s → Results most out (unless_refused s out call)
      go (Ok tt) e = r e
      go (Err n) e = let o = own_refusal bs n e in refuses n o.number (λ q. absurd (o.not_short q))

  cond_results : (t : Bool) (x y : Call) → (t ≡ true → Results most out x) → Results most out y → Results most out (cond t x y)
  cond_results true x y a b = a refl
  cond_results false x y a b = b

module _ (out : List ℕ) where
  pub replay_results : (journal : List ℕ) → Results 176 out (replay_call journal out)
  unfolding replay_call
  replay_results journal =
      given_results 176 out (in_order (figures (summed (replayed journal)))) (omega (arith, figures_length (summed (replayed journal))))

  pub print_results : (journal : List ℕ) → Results 432 out (print_call journal out)
  unfolding print_call
  print_results journal = given_results 432 out (lines_of (replayed journal)) (lines_size (replayed journal))

  pub finalizing_results : (journal : List ℕ) → Results (22 * VOTES) out (finalizing_call journal out)
  unfolding finalizing_call
  finalizing_results journal =
      let r = (replayed journal).journal.round in
      unless_results (22 * VOTES) out journal _
      (λ e. cond_results (22 * VOTES) out (has_round (replayed journal).journal.turn) _ _ (λ t. go r (round_passes journal t) r.answers.finalized)
      (no_results (22 * VOTES) out NothingFinal (omega arith) (omega arith)))
    where
      go : (r : Round) → shaped r ≡ true → (found : Option ℕ) → Results (22 * VOTES) out (finalizing_in r found out)
      go r s (Some b) =
          given_results (22 * VOTES) out
          (in_a_row (record_of r.votes r.context.voters.ids r.table.ids r.table.numbers) (entries_of (Finalizing b) r)) (list_size r s b)
      go r s None = no_results (22 * VOTES) out NothingFinal (omega arith) (omega arith)

  weighed_results : (a b : Round) → Results 8 out (weighed (views_in a b) out)
  unfolding views_in
  weighed_results a b = go (agree a b)
    where
      sum : ℕ
      sum = two_views (voters a) (precommits a) (precommits b)

      go : (t : Bool) → Results 8 out (weighed (cond t (Ok sum) (Err UnlikeViews)) out)
      go true = given_results 8 out (little 8 sum) (omega arith)
      go false = no_results 8 out UnlikeViews (omega arith) (omega arith)

  pub two_views_results : (first second : List ℕ) → Results 8 out (two_views_call first second out)
  unfolding two_views_call
  two_views_results first second =
      let none = no_results 8 out UnlikeViews (omega arith) (omega arith) in
      unless_results 8 out first _
      (λ e. unless_results 8 out second _
      (λ f. cond_results 8 out (has_round (replayed first).journal.turn) _ _
      (λ s. cond_results 8 out (has_round (replayed second).journal.turn) _ _
      (λ t. weighed_results (replayed first).journal.round (replayed second).journal.round) none) none))
