-- The lines that are due, and a text that goes from an array into a lent buffer.
use mathlib.Core.Bool.{true}
use mathlib.Core.List.{List, ◌++◌}
use mathlib.Core.Logic.{◌⊎◌, inl, inr}
use mathlib.Core.Path.{◌≡◌, refl, sym, ap, subst, ◌∙◌}
use Prim.Native.Nat.{ℕ, ◌≤◌, ◌<◌}
use native.Mathlib.Omega.{arith}
use borrow.Author.Tests.{lt-ltb, le-ltb}
use lib.ListN.{length, take, drop, length-append}
use lib.Seq.{take_at, take-length}
use Rattle.weights.specs.Weights.{plus}
use Rattle.listing.specs.Written.{Lent}
use Rattle.journal.specs.declared.Turn.TheVariants.{Voters, Blocks, Votes}
use Rattle.feeding.specs.declared.Replay.{Replay}
use Rattle.feeding.specs.Feeding.{stands}
use Rattle.lines.specs.Lines as text
use Rattle.report.specs.Report.{lines_by, lines_of, refused, printed}
use Rattle.std.specs.Prelude.{Ok, Err}
use Rattle.refusals.specs.declared.Refusal.TheVariants.{ShortBuffer}
use Rattle.refusals.specs.declared.Refusal.{Refusal}
use Rattle.refusals.specs.Number.{number}

module _ (r : Replay) where
  pub lines_stopped : (e : Refusal) → r.stop ≡ Err e → lines_of r ≡ text.refused (number e) (plus r.records 1)
  unfolding lines_of
  lines_stopped n e = ap (λ s. lines_by s r.journal.turn r) e

  pub lines_round : r.stop ≡ Ok tt → r.journal.turn ≡ Votes → lines_of r ≡ text.round_lines r.journal.round r.rest.count
  unfolding lines_of
  lines_round e f = λ i. lines_by (e i) (f i) r

  pub lines_early : r.stop ≡ Ok tt → (r.journal.turn ≡ Blocks) ⊎ (r.journal.turn ≡ Voters) → lines_of r ≡ text.no_round r.rest.count
  unfolding lines_of
  lines_early e (inl f) = λ i. lines_by (e i) (f i) r
  lines_early e (inr f) = λ i. lines_by (e i) (f i) r

-- a text from the start of a buffer, its length told
pub put_as : (t u : List ℕ) → t ≡ u → (old new : List ℕ) (n : ℕ) → (new ≡ t ++ drop (length t) old) × (n ≡ length t) → (new ≡ u ++ drop (length u) old) × (n ≡ length u)
put_as t u e old new n p = subst (λ (x : List ℕ). (new ≡ x ++ drop (length x) old) × (n ≡ length x)) e p

module _ (t old new : List ℕ) (n : ℕ) (e : new ≡ t ++ drop (length t) old) (f : n ≡ length t) where
  pub size_inside : n ≤ length new
  size_inside = omega (arith, ap length e, length-append t (drop (length t) old))

  is_text : take n new ≡ t
  is_text = ap (take n) e ∙ take_at t (drop (length t) old) n (sym f)

  pub copy_fits : (out : List ℕ) → n ≤ length out → length (take n new) ≤ length out
  copy_fits out h = omega (arith, ap length is_text)

module _ (r : Replay) (passes : stands r ≡ true) (out : List ℕ) (n : ℕ) (f : n ≡ length (lines_of r)) where
  pub print_short : length out < n → refused ShortBuffer out ≡ printed r out
  unfolding printed
  print_short h = rw (passes, lt-ltb (length out) (length (lines_of r)) (omega arith))

  pub print_done : n ≤ length out → (old new : List ℕ) → new ≡ lines_of r ++ drop (length (lines_of r)) old → (after : List ℕ)
      → after ≡ take n new ++ drop (length (take n new)) out → record { answer = Ok n; bytes = after } ≡ printed r out
  unfolding printed
  print_done h old new e after g =
      rw (passes, le-ltb (length out) (length (lines_of r)) (omega arith)) (λ i. record { answer = Ok (f i); bytes = bytes_are i })
    where
      bytes_are : after ≡ lines_of r ++ drop (length (lines_of r)) out
      bytes_are =
          g ∙ ap (λ (x : List ℕ). x ++ drop (length x) out) (is_text (lines_of r) old new n e f)
