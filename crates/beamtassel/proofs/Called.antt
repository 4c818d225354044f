-- Each call is what the calls below it answer, with the answer as a number.
use mathlib.Core.Bool.{Bool, true, false, cond}
use mathlib.Core.List.{List}
use mathlib.Core.Path.{◌≡◌, refl, sym, ap, ◌∙◌}
use Prim.Native.Nat.{ℕ, ◌*◌}
use lib.Dec.{ltb}
use lib.ListN.{length}
use Rattle.listing.specs.declared.Wanted.TheVariants.{Finalizing}
use Rattle.listing.specs.Written.{Lent, record_of, in_a_row, written}
use Rattle.listing.proofs.Rows.{row_length, record_size}
use Rattle.round.specs.declared.Round.{Round}
use Rattle.round.specs.Shape.{shaped}
use Rattle.round.specs.Ask.{entries_of, records, listed, finalizing, finalizing_precommits}
use Rattle.two_views.specs.Views.{views}
use Rattle.feeding.specs.declared.Replay.{Replay}
use Rattle.feeding.specs.Feeding.{replayed}
use Rattle.summary.specs.declared.Summary.{Summary}
use Rattle.summary.specs.Summary.{summed}
use Rattle.summary_lines.specs.Text.{text_of, printed}
use Rattle.summary_lines.proofs.Same.{text_summed}
use Rattle.figures.specs.Figures.{figures, in_order, figured}
use Rattle.figures.proofs.Rows.{figures_length}
use Rattle.beamtassel.specs.Calls.{Call, refused, given, number_of, has_round, finalizing_in, views_in, weighed, replay_call, print_call, finalizing_call, compared}
use Rattle.beamtassel.proofs.Rounds.{round_passes}
use Rattle.std.specs.Prelude.{Option, Some, None, Result, Ok, Err, IsErrAnd}
use Rattle.std.proofs.lemmas.Result.{err_from_is_err_and}
use Rattle.refusals.specs.declared.Refusal.{Refusal}
use Rattle.refusals.specs.declared.Refusal.TheVariants.{NothingFinal, UnlikeViews}

-- what leaves at a `?`
exit_is : {A : Type 0} {e : Refusal} (y : Result A Refusal) → IsErrAnd y (λ d. d ≡ e) → y ≡ Err e
exit_is y q = let w = err_from_is_err_and y q in w.1 ∙ ap Err w.2

-- an answer beside a lent buffer, as a call
abbrev as_call : Lent → Call
as_call l = record { number = number_of l.answer; out = l.bytes }

called : (w : Result ℕ Refusal) (n : ℕ) (after : List ℕ) → n ≡ number_of w → (l : Lent) → record { answer = w; bytes = after } ≡ l → record { number = n; out = after } ≡ as_call l
called w n after e l h = (λ i. record { number = e i; out = after }) ∙ ap as_call h

call_cond : (b : Bool) (x y : Lent) → as_call (cond b x y) ≡ cond b (as_call x) (as_call y)
call_cond true x y = refl
call_cond false x y = refl

-- the report in numbers
figures_given : (s : Summary) (out : List ℕ) → as_call (figured s out) ≡ given (in_order (figures s)) out
unfolding figured
figures_given s out = rw (figures_length s) (call_cond (ltb (length out) 176) _ _)

-- the report in lines
lines_given : (s : Summary) (out : List ℕ) → as_call (printed s out) ≡ given (text_of s) out
unfolding printed
lines_given s out = call_cond (ltb (length out) (length (text_of s))) _ _

-- records one after the other
written_given : (f : ℕ → List ℕ) → ((e : ℕ) → length (f e) ≡ 22) → (es out : List ℕ) → as_call (written f es out) ≡ given (in_a_row f es) out
unfolding written
written_given f size es out = rw (row_length f size es) (call_cond (ltb (length out) (22 * length es)) _ _)

finalizing_given : (r : Round) → shaped r ≡ true → (out : List ℕ) → as_call (finalizing_precommits r out) ≡ finalizing_in r r.answers.finalized out
unfolding finalizing_precommits listed records
finalizing_given r s out = rw s (go r.answers.finalized)
  where
    go : (found : Option ℕ) → as_call (finalizing r out found) ≡ finalizing_in r found out
    go (Some b) =
        written_given (record_of r.votes r.context.voters.ids r.table.ids r.table.numbers)
        (record_size r.votes r.context.voters.ids r.table.ids r.table.numbers) (entries_of (Finalizing b) r) out
    go None = refl

pub views_are : (a b : Round) → shaped a ≡ true → shaped b ≡ true → views a b ≡ views_in a b
unfolding views views_in
views_are a b s t = rw (s, t)

-- what the code finds, and the calls
module _ (js out : List ℕ) where
  pub replay_done : (s : Summary) → s ≡ summed (replayed js) → (w : Result ℕ Refusal) (n : ℕ) (after : List ℕ) → n ≡ number_of w
      → record { answer = w; bytes = after } ≡ figured s out → record { number = n; out = after } ≡ replay_call js out
  unfolding replay_call
  replay_done s e w n after f h = called w n after f _ h ∙ figures_given s out ∙ ap (λ (x : Summary). given (in_order (figures x)) out) e

  pub print_done : (s : Summary) → s ≡ summed (replayed js) → (w : Result ℕ Refusal) (n : ℕ) (after : List ℕ) → n ≡ number_of w
      → record { answer = w; bytes = after } ≡ printed s out → record { number = n; out = after } ≡ print_call js out
  unfolding print_call
  print_done s e w n after f h =
      called w n after f _ h ∙ lines_given s out ∙ ap (λ (x : Summary). given (text_of x) out) e
      ∙ ap (λ (t : List ℕ). given t out) (text_summed (replayed js))

  module _ (r : Replay) (is : r ≡ replayed js) where
    pub finalizing_refused : (e : Refusal) → r.stop ≡ Err e → (y : Result ℕ Refusal) → IsErrAnd y (λ d. d ≡ e)
        → record { number = number_of y; out = out } ≡ finalizing_call js out
    unfolding finalizing_call
    finalizing_refused e stop y q = rw (exit_is y q, ← is, stop)

    pub finalizing_none : r.stop ≡ Ok tt → has_round r.journal.turn ≡ false → refused NothingFinal out ≡ finalizing_call js out
    unfolding finalizing_call
    finalizing_none stop turn = rw (← is, stop, turn)

    pub finalizing_done : r.stop ≡ Ok tt → has_round r.journal.turn ≡ true → (w : Result ℕ Refusal) (after : List ℕ)
        → record { answer = w; bytes = after } ≡ finalizing_precommits r.journal.round out
        → record { number = number_of w; out = after } ≡ finalizing_call js out
    unfolding finalizing_call
    finalizing_done stop turn w after h =
        ap as_call h ∙ finalizing_given r.journal.round shape out ∙ rw (← is, stop, turn) refl
      where
        shape : shaped r.journal.round ≡ true
        shape = ap (λ (x : Replay). shaped x.journal.round) is ∙ round_passes js (ap (λ (x : Replay). has_round x.journal.turn) (sym is) ∙ turn)

-- of two replays
module _ (first second out : List ℕ) (a b : Replay) (a_is : a ≡ replayed first) (b_is : b ≡ replayed second) where
  abbrev Is : ℕ → List ℕ → Type 0
  Is n after = ◌≡◌ {A = Call} (record { number = n; out = after }) (compared a b out)

  pub first_refused : (e : Refusal) → a.stop ≡ Err e → (y : Result ℕ Refusal) → IsErrAnd y (λ d. d ≡ e) → Is (number_of y) out
  first_refused e stop y q = rw (exit_is y q, stop)

  pub second_refused : a.stop ≡ Ok tt → (e : Refusal) → b.stop ≡ Err e → (y : Result ℕ Refusal) → IsErrAnd y (λ d. d ≡ e)
      → Is (number_of y) out
  second_refused going e stop y q = rw (exit_is y q, going, stop)

  module _ (a_open : a.stop ≡ Ok tt) (b_open : b.stop ≡ Ok tt) where
    pub first_none : has_round a.journal.turn ≡ false → Is (number_of (Err UnlikeViews)) out
    first_none turn = rw (a_open, b_open, turn)

    pub second_none : has_round a.journal.turn ≡ true → has_round b.journal.turn ≡ false → Is (number_of (Err UnlikeViews)) out
    second_none turn none = rw (a_open, b_open, turn, none)

    module _ (s : has_round a.journal.turn ≡ true) (t : has_round b.journal.turn ≡ true) where
      pub views_done : (v : Result ℕ Refusal) → v ≡ views a.journal.round b.journal.round
          → (n : ℕ) (after : List ℕ) → record { number = n; out = after } ≡ weighed v out → Is n after
      views_done v e n after h =
          h ∙ ap (λ (x : Result ℕ Refusal). weighed x out) (e ∙ views_are a.journal.round b.journal.round (shape first a a_is s) (shape second b b_is t))
          ∙ rw (a_open, b_open, s, t) refl
        where
          shape : (js : List ℕ) (r : Replay) → r ≡ replayed js → has_round r.journal.turn ≡ true → shaped r.journal.round ≡ true
          shape js r is turn =
              ap (λ (x : Replay). shaped x.journal.round) is ∙ round_passes js (ap (λ (x : Replay). has_round x.journal.turn) (sym is) ∙ turn)

      pub views_refused : (e : Refusal) → Err e ≡ views a.journal.round b.journal.round → (y : Result ℕ Refusal) → IsErrAnd y (λ d. d ≡ e)
          → Is (number_of y) out
      views_refused e w y q = views_done (Err e) w (number_of y) out (rw (exit_is y q))
